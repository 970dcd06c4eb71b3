-- What holds of records that are read by key.
--
-- 1. Their stored rows are those of the records, of whatever log (`StoredByKey`).
-- 2. Undos and RolledBacks that are appended add nothing (`UndosAddNothing`).
-- 3. A lawful log stores what is committed in the state that its records leave (`LogStores`).
-- 4. Where the tests of an opening pass, and whatever lawful records follow, the whole log stores
--    what is committed in the state that is left (`OpeningStores`).
use Rattle.std.specs.Prelude.{◌≡◌, ◌++◌, ℕ, List, []}
use Rattle.rg_home.specs.Slot.{Slot}
use Rattle.rg_home.specs.Written.{Written}
use Rattle.rg_image.specs.Meaning.{stored}
use Rattle.rg_laws_log.specs.LogState.Act.{nothing, state}
use Rattle.rg_laws_log.specs.LogState.Consistent.{stored_of}
use Rattle.rg_laws_log.specs.LogState.Lawful.{Runs}
use Rattle.rg_laws_log.specs.LogState.Records.{acts_of}
use Rattle.rg_laws_log.specs.LogState.Stored.{stored_at}
use Rattle.rg_laws_log.specs.LogState.Tested.{Tested, opened}
use Rattle.rg_record.specs.declared.record.Record.{Record}
use Rattle.rg_laws_log.specs.StoredRows.Keyed.{AllTakeBack, TransBelow, keyed_acts}

abbrev pub StoredByKey : Type 0
StoredByKey = (rs : List Record) (k : ℕ) → stored rs k ≡ stored_at (keyed_acts rs) k

abbrev pub UndosAddNothing : Type 0
UndosAddNothing =
    (rs more : List Record) → AllTakeBack more → keyed_acts (rs ++ more) ≡ keyed_acts rs

abbrev pub LogStores : Type 0
LogStores =
    (limit : ℕ) (rs : List Record) → Runs limit nothing (acts_of [] rs) → (k : ℕ)
    → stored rs k ≡ stored_of (state nothing (acts_of [] rs)) k

abbrev pub OpeningStores : Type 0
OpeningStores =
    (limit : ℕ) (pages : List (List Slot)) (units : List (List Written)) (top : ℕ)
    (old : List Record)
    → Tested limit pages units (stored_at (keyed_acts old)) top → TransBelow top old
    → (more : List Record)
    → Runs limit (opened pages units (stored_at (keyed_acts old)) top) (acts_of [] more) → (k : ℕ)
    → stored (old ++ more) k
    ≡ stored_of (state (opened pages units (stored_at (keyed_acts old)) top) (acts_of [] more)) k
