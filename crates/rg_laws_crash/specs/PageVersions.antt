pub mod ImageLaws
pub mod Laws
pub mod OnImage
pub mod Versions
