pub mod Looking
pub mod Order
pub mod Says
pub mod Tying
pub mod Deciding
pub mod Twinning
pub mod Noting
pub mod Turning
