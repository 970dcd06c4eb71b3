pub mod Bytes
pub mod Deck
pub mod Parts
pub mod Readings
pub mod Texts
pub mod Words
