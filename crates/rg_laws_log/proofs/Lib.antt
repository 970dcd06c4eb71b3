pub mod LogStateLemmas
pub mod StoredRowsLemmas
pub mod PageBoundsLemmas
