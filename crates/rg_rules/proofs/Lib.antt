pub mod TallyLemmas
pub mod StageLemmas
