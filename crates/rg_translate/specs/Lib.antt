pub mod PackedCopy
pub mod Load
pub mod RightCopy
pub mod Backlog
pub mod Caught
pub mod Laws
