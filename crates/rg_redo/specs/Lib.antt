pub mod CurrentCopy
pub mod Redo
