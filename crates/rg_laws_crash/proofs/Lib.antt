pub mod PageVersionsLemmas
pub mod NewestPagesLemmas
pub mod LogChainLemmas
pub mod SoundVolumeLemmas
pub mod SwitchRecordLemmas
pub mod NewCopyLemmas
