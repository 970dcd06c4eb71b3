pub mod Clustering
pub mod Counting
pub mod Everyone
pub mod Orders
pub mod Rising
pub mod Seen
pub mod Sorting
pub mod Suffix
