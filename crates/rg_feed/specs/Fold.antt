pub mod Last
pub mod Fold
pub mod Lawful
pub mod Fed
pub mod Laws
