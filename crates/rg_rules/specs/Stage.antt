pub mod NumbersOf
pub mod Followed
pub mod Bounded
pub mod Events
pub mod Booked
pub mod Laws
