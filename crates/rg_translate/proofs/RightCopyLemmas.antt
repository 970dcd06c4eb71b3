pub mod Taking
pub mod InOrder
pub mod Lying
pub mod Quiet
pub mod Right
