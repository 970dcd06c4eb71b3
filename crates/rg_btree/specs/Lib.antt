pub mod Indexes
pub mod Child
pub mod Moved
pub mod Short
pub mod Spares
pub mod Tree
