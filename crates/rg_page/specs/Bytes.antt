pub mod Content
pub mod Laws
pub mod PageBytes
pub mod Reading
