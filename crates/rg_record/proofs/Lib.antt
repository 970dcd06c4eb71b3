pub mod Again
pub mod Loop
pub mod Pad
pub mod Rows
pub mod Sizes
