pub mod First
pub mod Held
pub mod Owned
pub mod Released
pub mod Taken
