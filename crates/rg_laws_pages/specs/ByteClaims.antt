pub mod Claim
pub mod Weight
pub mod Laws
