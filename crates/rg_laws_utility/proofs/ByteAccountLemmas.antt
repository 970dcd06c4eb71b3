pub mod Accounts
pub mod Reached
