pub mod Weighed
pub mod Reach
pub mod Laws
