pub mod Bounds
pub mod Calls
pub mod Clock
pub mod Fault
pub mod Pages
pub mod Sizes
pub mod State
