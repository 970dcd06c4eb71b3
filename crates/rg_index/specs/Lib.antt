pub mod Entries
pub mod Indexed
pub mod Listed
pub mod RisingPart
pub mod Split
