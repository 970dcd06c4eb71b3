-- What process death leaves of a state, as the log stores it.
--
-- 1. It leaves the committed rows. Where the device refused a COMMIT it is open whether that is in:
--    then it leaves them with what the session wrote, or without.
-- 2. Each part of the log that has all that is forced stores one of these tables. So does what a
--    crash leaves, which is such a part.
-- 3. While a statement is answered that forces the log, a crash leaves what it would leave before,
--    or what it leaves where the device refuses the COMMIT.
use Rattle.std.specs.Prelude.{◌≤◌, ◌⊎◌, ℕ, Bool, true, false, List, Some, length, take}
use Rattle.std.specs.List.{Contains}
use Rattle.rg_base.specs.declared.session.Session.{Session}
use Rattle.rg_log.specs.Kept.{Listed}
use Rattle.rg_model.specs.Possible.{tables_left}
use Rattle.rg_model.specs.State.{State, Table}
use Rattle.rg_record.specs.declared.record.Record.{Record}
use Rattle.rg_engine.specs.Stored.{IsStored}

-- the state once the device has refused the COMMIT of a session: it is open whether it is in
abbrev pub in_doubt : State → Session → State
in_doubt st session = record st { down = true; doubt = Some session }

-- these records store a table that process death leaves of the state
pub record StoresLeft (st : State) (records : List Record) : Type 0 where
  pub table : Table
  pub among : Contains (tables_left st st.doubt) table
  pub stored : IsStored records table

-- so does whatever part of the log has all that is forced
pub record LeavesState (st : State) (log : Listed) : Type 0 where
  pub stored :
      (n : ℕ) → log.forced ≤ n → n ≤ length log.records → StoresLeft st (take n log.records)

-- These records store a table that process death leaves of the state while a statement of a session
-- is answered. One that forces the log is the COMMIT of its unit, which may be in or not.
abbrev pub StoresDuring : (force : Bool) → State → Session → List Record → Type 0
StoresDuring false st session records = StoresLeft st records
StoresDuring true st session records =
    StoresLeft st records ⊎ StoresLeft (in_doubt st session) records
