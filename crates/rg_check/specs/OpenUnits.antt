pub mod Laws
pub mod Unended
