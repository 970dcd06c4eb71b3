pub mod Caught
pub mod Laws
