pub mod Form
pub mod Kept
pub mod Log
pub mod Meaning
pub mod Pack
pub mod Page
pub mod Rules
