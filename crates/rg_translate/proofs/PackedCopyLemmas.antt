pub mod Sources
pub mod Spots
pub mod Quiet
pub mod Clustered
pub mod Copies
