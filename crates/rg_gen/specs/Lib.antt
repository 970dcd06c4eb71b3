pub mod Deck
pub mod Draws
pub mod Summary
