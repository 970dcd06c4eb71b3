pub mod Branch
pub mod Falls
pub mod Shape
pub mod Share
