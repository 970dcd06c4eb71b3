pub mod Cut
pub mod Found
pub mod Kept
pub mod Listing
pub mod Lists
pub mod Order
