pub mod TraceLocks
pub mod LockClaims
pub mod TraceStage
pub mod QuietKeys
pub mod Course
pub mod RecordChanges
pub mod CopyWeight
pub mod ByteAccount
