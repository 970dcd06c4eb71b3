pub mod Ready
pub mod Needed
pub mod Dead
pub mod Keyed
pub mod Areas
pub mod Laws
