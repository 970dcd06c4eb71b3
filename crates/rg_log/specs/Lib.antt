pub mod Kept
pub mod Open
pub mod Present
pub mod Read
