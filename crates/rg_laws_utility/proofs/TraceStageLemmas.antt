pub mod Keeping
pub mod Tended
pub mod Turning
pub mod Kept
pub mod Switching
pub mod Granting
