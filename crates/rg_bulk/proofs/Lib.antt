pub mod Filled
pub mod Heights
pub mod Levels
