pub mod Deck
pub mod Sessions
