pub mod Appended
pub mod Following
pub mod Owing
pub mod Telling
