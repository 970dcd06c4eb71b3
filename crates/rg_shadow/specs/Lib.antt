pub mod Drafts
pub mod Planned
pub mod Shade
pub mod Pieces
pub mod Runs
pub mod Valued
pub mod Stored
