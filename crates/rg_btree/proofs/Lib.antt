pub mod IndexesLemmas
pub mod Below
pub mod Choice
pub mod Chosen
pub mod Even
pub mod Kids
pub mod Mended
pub mod Ranges
pub mod Settled
pub mod Trees
mod Firsts
