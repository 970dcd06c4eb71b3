-- A table with its locks.
use Rattle.rg_model.specs.State.{Table, Locks}

-- the row of each key, and the lock of each key that is locked
pub record Locked : Type 0 where
  pub table : Table
  pub locks : Locks
