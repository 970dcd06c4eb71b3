pub mod TraceLocksLemmas
pub mod LockClaimsLemmas
pub mod TraceStageLemmas
pub mod QuietKeysLemmas
pub mod CourseLemmas
pub mod RecordChangesLemmas
pub mod CopyWeightLemmas
pub mod ByteAccountLemmas
