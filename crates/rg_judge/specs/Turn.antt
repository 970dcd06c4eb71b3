pub mod UtilityOf
pub mod TurnOf
