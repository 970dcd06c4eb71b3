pub mod OnImage
pub mod OnVolume
pub mod Parts
pub mod Redo
