pub mod Fold
pub mod SentItems
pub mod Ring
pub mod Ends
