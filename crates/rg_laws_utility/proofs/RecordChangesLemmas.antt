pub mod Moving
pub mod Keying
pub mod Counting
