pub mod Course
pub mod Drained
pub mod Loading
pub mod OnCourse
pub mod Switching
