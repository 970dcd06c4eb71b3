pub mod Closing
pub mod ClosingLaws
pub mod Laws
pub mod Left
pub mod Pages
pub mod Reopens
pub mod Sound
