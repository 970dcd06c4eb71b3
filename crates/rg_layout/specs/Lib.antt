pub mod Spots
pub mod Right
