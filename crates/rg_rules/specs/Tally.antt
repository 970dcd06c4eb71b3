pub mod Changed
pub mod Tallied
