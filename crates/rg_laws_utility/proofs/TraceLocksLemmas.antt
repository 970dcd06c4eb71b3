pub mod Allowed
pub mod Sorting
pub mod Switching
pub mod Telling
