pub mod Reading
pub mod Places
pub mod OnSpots
pub mod RightSide
