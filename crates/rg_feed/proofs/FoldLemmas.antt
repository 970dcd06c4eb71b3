pub mod Applied
pub mod Batches
pub mod Feeding
pub mod Folds
pub mod Loaded
pub mod Permuted
pub mod Places
pub mod Taken
