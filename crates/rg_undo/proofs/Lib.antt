pub mod Undoing
pub mod Wrote
pub mod UnitLoop
