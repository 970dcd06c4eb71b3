pub mod ReadBack
pub mod Whole
