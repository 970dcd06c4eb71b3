-- What the changes have that records make.
--
-- 1. Where the records are lawful, the changes lead from the rows that are there to those that the
--    records leave (`ChangesMoveRows`).
-- 2. Each is above those before, where the records are numbered (`ChangesAreAbove`).
-- 3. No change has a quiet key, where no record writes one, and no write before that is not yet
--    undone is of one (`ChangesAreLoud`). An Undo has the key of the write that it undoes.
-- 4. Undos of a unit's writes make one change for each write that they undo (`UndosAreCounted`). It
--    has the home of that write, and the row that was there before it (`UndosTell`).
use Rattle.std.specs.Prelude.{◌≡◌, ◌+◌, ◌++◌, ℕ, false, List, [], ◌∷◌, Option, length}
use Rattle.std.specs.List.{AllByRecursion}
use Rattle.rg_base.specs.declared.change.Change.{Change}
use Rattle.rg_base.specs.declared.place.Place.{Place}
use Rattle.rg_base.specs.declared.row.Row.{Row}
use Rattle.rg_home.specs.Pages.{slot_of}
use Rattle.rg_home.specs.Rows.{row_at}
use Rattle.rg_laws_log.specs.LogState.Act.{LogState, state}
use Rattle.rg_laws_log.specs.LogState.Closing.{AreUndos}
use Rattle.rg_laws_log.specs.LogState.Consistent.{IsConsistent}
use Rattle.rg_laws_log.specs.LogState.Lawful.{Runs}
use Rattle.rg_laws_log.specs.LogState.Records.{acts_of}
use Rattle.rg_laws_log.specs.LogState.Write.{NoneHit, Write, at_key, key_of, own_of}
use Rattle.rg_record.specs.declared.record.Record.{Record}
use Rattle.rg_record.specs.declared.record.Kind.{Kind}
use Rattle.rg_record.specs.declared.record.Kind.TheVariants as kind
use Rattle.rg_model.specs.Quiet.{is_quiet}
use Rattle.rg_feed.specs.SentItems.Keeps.{AreAbove, IsLoud, MovesRows}
use Rattle.rg_stmt.specs.declared.event.Entry.{Entry}
use Rattle.rg_laws_utility.specs.RecordChanges.Changed.{changes_in}

abbrev pub ChangesMoveRows : Type 0
ChangesMoveRows =
    (limit : ℕ) (s : LogState) (records : List Record)
    → IsConsistent limit s → Runs limit s (acts_of [] records)
    → MovesRows (changes_in records) (row_at (slot_of s.pages))
    (row_at (slot_of (state s (acts_of [] records)).pages))

-- each has the number after the one before, from this one on
abbrev pub AreNumbered : (last : ℕ) → List Record → Type 0
AreNumbered last [] = Unit {0}
AreNumbered last (entry ∷ records) =
    (entry.position.0 ≡ last + 1) × AreNumbered (last + 1) records

abbrev pub ChangesAreAbove : Type 0
ChangesAreAbove =
    (last : ℕ) (records : List Record) → AreNumbered last records
    → AreAbove last (last + length records) (changes_in records)

-- the key that a record of this kind writes is not quiet, if it writes one
abbrev pub WritesLoud : List Entry → Kind → Type 0
WritesLoud past (kind.Change home before after parts) =
    is_quiet (key_of before after) past ≡ false
WritesLoud past (kind.Undo next home after parts) = Unit {0}
WritesLoud past kind.Commit = Unit {0}
WritesLoud past kind.RolledBack = Unit {0}
WritesLoud past (kind.Purge parts) = Unit {0}
WritesLoud past (kind.Switch copy pages) = Unit {0}

abbrev pub ChangesAreLoud : Type 0
ChangesAreLoud =
    (limit : ℕ) (s : LogState) (records : List Record) (past : List Entry)
    → IsConsistent limit s → Runs limit s (acts_of [] records)
    → ((key : ℕ) → (NoneHit (at_key key) s.writes → ⊥) → is_quiet key past ≡ false)
    → AllByRecursion (λ (entry : Record). WritesLoud past entry.kind) records
    → AllByRecursion (IsLoud past) (changes_in records)

abbrev pub UndosAreCounted : Type 0
UndosAreCounted =
    (limit : ℕ) (s : LogState) (t : ℕ) (records : List Record)
    → AreUndos t (acts_of [] records) → Runs limit s (acts_of [] records)
    → length (own_of t (state s (acts_of [] records)).writes) + length (changes_in records)
    ≡ length (own_of t s.writes)

-- the home of each change, and its row
abbrev pub told_by : List Change → List (Place × Option Row)
told_by [] = []
told_by (change ∷ changes) = (change.home, change.after) ∷ told_by changes

-- the home of each write, and the row that was there before it
abbrev pub told_before : List Write → List (Place × Option Row)
told_before [] = []
told_before (w ∷ ws) = (w.written.home, w.written.before) ∷ told_before ws

abbrev pub UndosTell : Type 0
UndosTell =
    (limit : ℕ) (s : LogState) (t : ℕ) (records : List Record)
    → AreUndos t (acts_of [] records) → Runs limit s (acts_of [] records)
    → told_by (changes_in records)
    ++ told_before (own_of t (state s (acts_of [] records)).writes)
    ≡ told_before (own_of t s.writes)
