pub mod Moved
pub mod Pages
pub mod Reloading
pub mod Order
