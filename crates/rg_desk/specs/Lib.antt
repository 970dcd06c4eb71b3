pub mod Chronicle
pub mod Desk
pub mod Begun
