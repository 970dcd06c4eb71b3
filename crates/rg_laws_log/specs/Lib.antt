pub mod LogState
pub mod StoredRows
pub mod PageBounds
