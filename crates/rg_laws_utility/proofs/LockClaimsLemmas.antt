pub mod Claiming
pub mod Writing
