pub mod Layout
pub mod Print
pub mod Reply
pub mod Utility
