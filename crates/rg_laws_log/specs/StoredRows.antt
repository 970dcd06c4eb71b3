pub mod Keyed
pub mod KeyedLaws
