pub mod Loading
pub mod Claiming
