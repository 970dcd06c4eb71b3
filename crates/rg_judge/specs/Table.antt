pub mod Sets
pub mod Cats
pub mod Owners
pub mod Locked
