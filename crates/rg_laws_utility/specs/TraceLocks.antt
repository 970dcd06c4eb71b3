pub mod Laws
pub mod Rising
pub mod Switched
pub mod Told
