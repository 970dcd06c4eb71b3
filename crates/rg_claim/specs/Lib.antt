pub mod Blocking
pub mod ClaimState
pub mod Classes
pub mod Drains
pub mod Sessions
pub mod Slots
