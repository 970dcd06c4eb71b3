pub mod Pages
pub mod Turns
pub mod Asked
pub mod Bounds
pub mod Steps
pub mod Booking
