pub mod Anew
pub mod Forcing
pub mod Writing
