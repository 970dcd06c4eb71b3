pub mod Weighing
pub mod Bringing
pub mod Bounding
