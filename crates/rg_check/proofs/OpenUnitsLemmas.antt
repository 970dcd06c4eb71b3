pub mod Lefts
pub mod Opens
