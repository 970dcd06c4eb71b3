mod ClusteringRestored
mod DeadlineAndAlter
mod DrainGivenUp
mod EmptyReorg
mod LongLog
mod RollbackUnderTheDrain
mod Traces
pub mod Allowed
pub mod Before
pub mod Changed
pub mod Ends
pub mod Members
pub mod OneState
pub mod Overlay
pub mod RunPossible
pub mod RunPush
pub mod Turned
pub mod Walked
