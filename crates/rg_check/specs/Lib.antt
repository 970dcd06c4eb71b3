pub mod Chain
pub mod OpenUnits
pub mod PageTests
