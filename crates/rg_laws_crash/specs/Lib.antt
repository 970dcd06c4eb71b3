pub mod PageVersions
pub mod NewestPages
pub mod LogChain
pub mod SoundVolume
pub mod SwitchRecord
pub mod NewCopy
