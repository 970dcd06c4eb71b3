pub mod FoldLemmas
pub mod SentItemsLemmas
pub mod Keeping
pub mod Passing
pub mod Counting
