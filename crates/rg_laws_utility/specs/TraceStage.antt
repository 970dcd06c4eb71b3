pub mod Tending
pub mod Laws
