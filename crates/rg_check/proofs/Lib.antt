pub mod ChainLemmas
pub mod OpenUnitsLemmas
pub mod PageTestsLemmas
