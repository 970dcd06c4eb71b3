pub mod Copied
pub mod Tallies
