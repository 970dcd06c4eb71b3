pub mod Step
pub mod Drafted
pub mod Made
pub mod Working
