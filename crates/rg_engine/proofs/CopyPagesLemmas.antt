pub mod Stamping
pub mod Writing
