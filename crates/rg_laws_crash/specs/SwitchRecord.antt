pub mod Laws
pub mod Switched
