pub mod Stored
pub mod Closed
pub mod Data
pub mod Sound
pub mod Found
pub mod Opening
pub mod Laws
