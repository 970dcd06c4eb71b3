pub mod Stamped
pub mod Written
