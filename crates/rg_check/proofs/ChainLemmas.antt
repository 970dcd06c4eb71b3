pub mod Added
pub mod Puts
pub mod Records
pub mod Steps
pub mod Units
pub mod Walks
