pub mod Follows
pub mod Members
pub mod Tabled
pub mod Counts
pub mod Found
pub mod From
