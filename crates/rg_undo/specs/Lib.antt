pub mod Undoing
pub mod Unit
pub mod Wrote
pub mod Laws
