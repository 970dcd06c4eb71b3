pub mod Table
pub mod Turn
pub mod Layouts
pub mod StateOf
pub mod Refused
