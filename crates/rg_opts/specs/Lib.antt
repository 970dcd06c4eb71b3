pub mod Given
pub mod Lines
pub mod Operator
pub mod Reading
pub mod Spelling
pub mod Statement
pub mod Stops
