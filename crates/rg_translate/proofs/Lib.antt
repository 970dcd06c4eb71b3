pub mod PackedCopyLemmas
pub mod LoadLemmas
pub mod RightCopyLemmas
pub mod Later
pub mod Taking
pub mod Making
pub mod Weighing
pub mod Replaying
