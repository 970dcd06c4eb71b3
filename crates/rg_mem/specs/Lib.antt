pub mod Failed
pub mod Listed
pub mod Script
pub mod Shown
pub mod Sink
pub mod Source
pub mod Tally
pub mod Whole
