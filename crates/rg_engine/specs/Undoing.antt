-- The undo of a unit's writes.
--
-- 1. Its Changes are found from its last record back, and copied. They are undone in that order,
--    the latest first.
use Rattle.std.specs.Prelude.{◌≡◌, ◌≤◌, ◌+◌, ℕ, List, [], ◌∷◌, ◌++◌, Option}
use Rattle.std.specs.Prelude.{Some, None, if◌then◌else◌, length}
use Rattle.rg_base.specs.declared.place.Place.{Place}
use Rattle.rg_base.specs.declared.row.Row.{Row}
use Rattle.rg_home.specs.Undo.{undone}
use Rattle.rg_index.specs.Listed.{SetsRow}
use Rattle.rg_btree.specs.Indexes.Listings.{AreListedAt, AreListings, HasSpare}
use Rattle.rg_laws_log.specs.LogState.Write.{Write}
use Rattle.rg_record.specs.declared.record.Record.{Record}
use Rattle.rg_space.specs.Space.{capacity_in, summaries_of, undos_in}
use Rattle.rg_undo.specs.Undoing.{CanUndoChange, is_change, undo_record, written_of}
use Rattle.rg_engine.specs.Bytes.{taken_of}
use Rattle.rg_engine.specs.Engine.{HasPages, seen_in, slots_in}
use Rattle.rg_engine.specs.Newest.{KeepsNewest}
use Rattle.rg_engine.specs.RecordList.{record_at}
use Rattle.rg_engine.specs.Stored.{SameBase}
use Rattle.rg_engine.specs.Walks.{Walks, change_record}
use Rattle.rg_engine.specs.declared.engine.Engine.{Engine}
use Rattle.rg_engine.specs.declared.units.OpenUnit.{OpenUnit}

-- from the last record of unit t on stand so many writes
pub record HasWrites (records : List Record) (unit : OpenUnit) : Type 0 where
  pub writes : List Write
  pub walks : Walks records unit.tran.0 unit.last.0 writes
  pub count : length writes ≡ unit.writes

-- these are the Changes of unit t from its last one back to the one before `rest`, which is at `at`
abbrev pub ChainTo :
    List Record → (t at : ℕ) → (rest : List Write) → (last : ℕ) → List Write → List Record
    → Type 0
ChainTo records t at rest last ws [] = (last ≡ at) × (ws ≡ rest)
ChainTo records t at rest last [] (r ∷ rs) = ⊥
ChainTo records t at rest last (w ∷ ws) (r ∷ rs) =
    (back : ℕ) × (1 ≤ last) × (r ≡ change_record last t back w)
    × (record_at records last ≡ Some (change_record last t back w))
    × ChainTo records t at rest back ws rs

-- these are the Changes of these writes of unit t, from its last one on
abbrev pub AreChain : List Record → (t last : ℕ) → List Write → List Record → Type 0
AreChain records t last ws rs = ChainTo records t 0 [] last ws rs

-- the row of the Change at a position can be taken back in the indexes
pub record CanUnlist (d : Engine) (at : ℕ) : Type 0 where
  pub t : ℕ
  pub back : ℕ
  pub write : Write
  pub found : record_at d.log.records at ≡ Some (change_record at t back write)
  pub listed : AreListedAt d.indexes write.written.home write.after
  pub spare : HasSpare 1 d.indexes

-- the row of the Change at a position was taken back in the indexes; the answer is the position of
-- the Change before
pub record Unlists (old : Engine) (at next : ℕ) (new : Engine) : Type 0 where
  pub same : new ≡ record old { indexes = new.indexes }
  pub spare : (n : ℕ) → HasSpare (n + 1) old.indexes → HasSpare n new.indexes
  pub listings :
      (t back : ℕ) (w : Write) (rows after : Place → Option Row)
      → record_at old.log.records at ≡ Some (change_record at t back w)
      → AreListings rows old.indexes → rows w.written.home ≡ w.after
      → SetsRow rows after w.written.home w.written.before → AreListings after new.indexes
  pub next_is :
      (t back : ℕ) (w : Write)
      → record_at old.log.records at ≡ Some (change_record at t back w) → next ≡ back

-- a record, where it is a Change
abbrev pub change_in : Record → Option Record
change_in entry = if is_change entry.kind then Some entry else None

-- so far the Changes of a unit were copied back to the one at `at`, of which i are there
pub record Collected
    (records : List Record) (unit : OpenUnit) (ws : List Write) (at i : ℕ) (changes : List Record)
    : Type 0 where
  pub rest : List Write
  pub walks : Walks records unit.tran.0 at rest
  pub left : length rest + i ≡ unit.writes
  pub chain : ChainTo records unit.tran.0 at rest unit.last.0 ws changes

-- the latest Change that is left can be undone: it stands at `at`, its row can be taken back in the
-- indexes, and there is room for its undo
pub record CanUndoNext (d : Engine) (work : List Record) (at : ℕ) : Type 0 where
  pub unlist : CanUnlist d at
  pub later : List Record
  pub work_is : work ≡ change_record at unlist.t unlist.back unlist.write ∷ later
  pub able :
      CanUndoChange (seen_in d) (summaries_of d.space)
      (change_record at unlist.t unlist.back unlist.write)
  pub pages : HasPages d
  pub undos : length work ≤ undos_in d.space
  pub reserved : 911 ≤ d.log.reserved

-- it was undone, by a record of its own; the answer is the position of the Change before
pub record UndidNext
    (old : Engine) (work : List Record) (at back next : ℕ) (new : Engine) (left : List Record)
    : Type 0 where
  pub capacity : capacity_in new.space ≡ capacity_in old.space
  pub pages : HasPages new
  pub slots :
      (t before : ℕ) (w : Write) (later : List Record)
      → work ≡ change_record at t before w ∷ later
      → slots_in new ≡ undone (slots_in old) (written_of (change_record at t before w))
  pub records :
      (t before : ℕ) (w : Write) (later : List Record)
      → work ≡ change_record at t before w ∷ later
      → new.log.records
      ≡ old.log.records
      ++ undo_record (length old.log.records + 1) back (slots_in old)
      (change_record at t before w)
      ∷ []
  pub reserved : new.log.reserved ≤ old.log.reserved
  pub least : old.log.reserved ≤ new.log.reserved + 911
  pub taken : taken_of new.log ≡ taken_of old.log
  pub base : SameBase old new
  pub left_is :
      (t before : ℕ) (w : Write) (later : List Record)
      → work ≡ change_record at t before w ∷ later → left ≡ later
  pub undos : length left ≤ undos_in new.space
  pub spare : (n : ℕ) → HasSpare (n + 1) old.indexes → HasSpare n new.indexes
  pub listings :
      (t before : ℕ) (w : Write) (rows after : Place → Option Row)
      → record_at old.log.records at ≡ Some (change_record at t before w)
      → AreListings rows old.indexes → rows w.written.home ≡ w.after
      → SetsRow rows after w.written.home w.written.before → AreListings after new.indexes
  pub next_is :
      (t before : ℕ) (w : Write)
      → record_at old.log.records at ≡ Some (change_record at t before w) → next ≡ before
  pub locks : new.locks ≡ old.locks
  pub claims : new.claims ≡ old.claims
  pub units : new.units ≡ old.units
  pub top : new.top ≡ old.top

-- where the latest Change that is left is undone, the pages stay the newest versions
abbrev pub KeepsUndone : Engine → List Record → (at : ℕ) → Engine → Type 0
KeepsUndone old work at new =
    (t before : ℕ) (w : Write) (later : List Record)
    → work ≡ change_record at t before w ∷ later → KeepsNewest old new
