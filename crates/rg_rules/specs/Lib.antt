pub mod Tally
pub mod Stage
