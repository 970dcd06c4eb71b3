mod TableLemmas
pub mod LayoutsLemmas
pub mod Exactly
pub mod Judging
pub mod Unclaimed
pub mod Walked
