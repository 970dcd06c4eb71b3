-- A unit's writes, undone so far.
use Rattle.std.specs.Prelude.{◌≡◌, ◌≤◌, ◌+◌, ◌*◌, ℕ, List, [], ◌++◌, length}
use Rattle.rg_laws_crash.specs.LogChain.Next.{AreNext}
use Rattle.rg_home.specs.Pages.{slot_of}
use Rattle.rg_home.specs.Rows.{row_at}
use Rattle.rg_image.specs.Rules.{last_position, of_tran, owed}
use Rattle.rg_btree.specs.Indexes.Listings.{AreListings, HasSpare}
use Rattle.rg_laws_log.specs.LogState.Act.{Act, LogState, state}
use Rattle.rg_laws_log.specs.LogState.Closing.{AreUndos}
use Rattle.rg_laws_log.specs.LogState.Lawful.{Runs}
use Rattle.rg_laws_log.specs.LogState.Records.{acts_of}
use Rattle.rg_laws_log.specs.LogState.Write.{own_of}
use Rattle.rg_model.specs.State.{State}
use Rattle.rg_record.specs.declared.record.Record.{Record}
use Rattle.rg_space.specs.Space.{capacity_in, undos_in}
use Rattle.rg_check.specs.OpenUnits.Unended.{left_of}
use Rattle.rg_engine.specs.Bytes.{taken_of}
use Rattle.rg_engine.specs.Effect.{pages_undone, records_undoing}
use Rattle.rg_engine.specs.Engine.{HasPages, slots_in}
use Rattle.rg_engine.specs.Newest.{KeepsNewest}
use Rattle.rg_engine.specs.Shows.{Shows, left_by}
use Rattle.rg_engine.specs.Stored.{SameBase}
use Rattle.rg_engine.specs.Undoing.{AreChain}
use Rattle.rg_engine.specs.declared.engine.Engine.{Engine}
use Rattle.rg_engine.specs.declared.units.OpenUnit.{OpenUnit}

-- i writes of this unit are undone, by lawful Undos from state s on; the others are still to come.
-- Once they are undone too the records and the pages are those that the undo of all leaves.
pub record IsUndoing
    (old : Engine) (s : LogState) (unit : OpenUnit) (now : Engine) (work : List Record)
    (at back i : ℕ) : Type 0 where
  pub undos : List Act
  pub are : AreUndos unit.tran.0 undos
  pub runs : Runs (capacity_in old.space) s undos
  pub more : List Record
  pub records : now.log.records ≡ old.log.records ++ more
  pub acts : acts_of [] more ≡ undos
  pub follows : AreNext (capacity_in old.space) old.log.pages old.log.records more
  pub left_is : work ≡ left_of unit.tran.0 now.log.records
  pub last : back ≡ last_position 0 (of_tran unit.tran.0 now.log.records)
  pub owes : owed now.log.records + 911 * i ≡ owed old.log.records
  pub capacity : capacity_in now.space ≡ capacity_in old.space
  pub pages : HasPages now
  pub slots : slots_in now ≡ (state s undos).pages
  pub newest : KeepsNewest old now
  pub indexes : AreListings (row_at (slot_of (state s undos).pages)) now.indexes
  pub chain :
      AreChain now.log.records unit.tran.0 at (own_of unit.tran.0 (state s undos).writes) work
  pub left : length (own_of unit.tran.0 (state s undos).writes) + i ≡ unit.writes
  pub spare : HasSpare (length work) now.indexes
  pub rooms : length work ≤ undos_in now.space
  pub reserved : now.log.reserved ≤ old.log.reserved
  pub least : old.log.reserved ≤ now.log.reserved + 911 * i
  pub taken : taken_of now.log ≡ taken_of old.log
  pub base : SameBase old now
  pub locks : now.locks ≡ old.locks
  pub claims : now.claims ≡ old.claims
  pub units : now.units ≡ old.units
  pub top : now.top ≡ old.top
  pub still :
      old.log.records
      ++ records_undoing unit (length old.log.records + 1) unit.last.0 (slots_in old)
      (left_of unit.tran.0 old.log.records)
      ≡ now.log.records
      ++ records_undoing unit (length now.log.records + 1) back (slots_in now) work
  pub still_pages :
      pages_undone (slots_in old) (left_of unit.tran.0 old.log.records)
      ≡ pages_undone (slots_in now) work

-- all writes of this unit are undone, from each state that the engine showed; its last record is at
-- `back` then
abbrev pub IsUndone : Engine → OpenUnit → (back : ℕ) → Engine → Type 0
IsUndone old unit back new =
    (st : State) (allowed : ℕ) (shows : Shows st allowed old)
    → IsUndoing old (left_by shows.first old) unit new [] 0 back unit.writes
