pub mod AnswerLines
pub mod File
pub mod Once
pub mod One
pub mod Same
pub mod Split
pub mod Statements
pub mod Walk
