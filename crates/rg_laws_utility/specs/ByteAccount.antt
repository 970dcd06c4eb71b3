pub mod Account
pub mod Found
pub mod Reaching
pub mod Laws
