pub mod ByTest
pub mod Replaced
pub mod SetsKept
pub mod CatsKept
pub mod Listing
pub mod HeldKept
pub mod LeastHeld
pub mod Ended
