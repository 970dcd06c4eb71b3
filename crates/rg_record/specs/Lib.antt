pub mod Applied
pub mod Filled
pub mod Fits
pub mod Reading
pub mod Spelled
pub mod Spelling
pub mod Told
