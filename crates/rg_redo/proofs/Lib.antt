pub mod CurrentCopyLemmas
pub mod Redoing
