pub mod Laws
pub mod Rebuilt
