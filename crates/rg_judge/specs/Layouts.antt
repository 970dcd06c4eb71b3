pub mod Places
pub mod Clustered
pub mod Packing
