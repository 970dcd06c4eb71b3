-- What the tests of an opening show, of any image and any log.
--
-- 1. The pages after redo are proper, and no more than the limit. No open unit has a number above
--    the greatest of the log.
-- 2. Each write of an open unit can be undone at its turn, and once all are undone the home rows
--    and the stored rows are one table.
-- 3. Nothing is assumed of how the log came to be. Units are undone in the order of the list, and
--    each unit's writes the latest first.
use Rattle.std.specs.Prelude.{◌≡◌, ◌≤◌, ◌++◌, ℕ, List, [], ◌∷◌, length, Option, None}
use Rattle.rg_base.specs.declared.row.Row.{Row as TableRow}
use Rattle.rg_home.specs.Slot.{Slot}
use Rattle.rg_home.specs.Rows.{row_at}
use Rattle.rg_home.specs.Pages.{slot_of}
use Rattle.rg_home.specs.Written.{Written}
use Rattle.rg_home.specs.Able.{Proper, AllUndoable}
use Rattle.rg_home.specs.Undo.{undone_all}
use Rattle.rg_laws_pages.specs.UndoRoom.Needed.{NeededInTurn}
use Rattle.rg_laws_log.specs.LogState.Write.{Write, kept_of, own_of, written_of}
use Rattle.rg_home.specs.Table.{IsTable}
use Rattle.rg_laws_log.specs.LogState.Act.{Act, LogState, not_of}
use Rattle.rg_laws_log.specs.LogState.Act.{Purge, Change, Undo, Commit, RollBack, Switch}

-- the writes of units, in the order in which they are undone
abbrev pub all_of : List (List Written) → List Written
all_of [] = []
all_of (cs ∷ units) = cs ++ all_of units

-- no write has an owner above this number
abbrev pub OwnersBelow : ℕ → List Written → Type 0
OwnersBelow top [] = Unit {0}
OwnersBelow top (c ∷ cs) = (c.owner ≤ top) × OwnersBelow top cs

-- no Change and no Commit is of a unit above this number
abbrev pub LogBelow : ℕ → List Act → Type 0
LogBelow top [] = Unit {0}
LogBelow top (Change w ∷ acts) = (w.written.owner ≤ top) × LogBelow top acts
LogBelow top (Commit t ∷ acts) = (t ≤ top) × LogBelow top acts
LogBelow top (Purge parts ∷ acts) = LogBelow top acts
LogBelow top (Undo t home after parts ∷ acts) = LogBelow top acts
LogBelow top (RollBack t ∷ acts) = LogBelow top acts
LogBelow top (Switch pages ∷ acts) = LogBelow top acts

-- what the tests show of the pages after redo, of open units, and of stored rows by key
pub record Tested
    (limit : ℕ) (pages : List (List Slot)) (units : List (List Written))
    (stored : ℕ → Option TableRow) (top : ℕ) : Type 0 where
  pub proper : Proper pages
  pub few : length pages ≤ limit
  pub owners : OwnersBelow top (all_of units)
  pub needed : NeededInTurn pages (all_of units)
  pub rows : IsTable (row_at (slot_of (undone_all pages (all_of units)))) stored

-- each unit can be undone at its turn
abbrev pub UnitsCan : List (List Slot) → List (List Written) → Type 0
UnitsCan pages [] = Unit {0}
UnitsCan pages (cs ∷ units) =
    Proper pages × AllUndoable None (slot_of pages) cs × UnitsCan (undone_all pages cs) units

-- the state that an opening leaves
abbrev pub opened :
    List (List Slot) → List (List Written) → (ℕ → Option TableRow) → ℕ → LogState
opened pages units stored top = record {
  pages = undone_all pages (all_of units);
  live = [];
  writes = [];
  now = stored;
  top = top;
  rolling = [];
}

-- the writes of these units, each the latest first
abbrev pub units_of : List ℕ → List Write → List (List Written)
units_of [] ws = []
units_of (t ∷ ts) ws =
    written_of (own_of t ws) ∷ units_of ts (kept_of (not_of t) ws)

-- these units take in all writes
abbrev pub TakeInAll : List ℕ → List Write → Type 0
TakeInAll [] ws = [] ≡ ws
TakeInAll (t ∷ ts) ws = TakeInAll ts (kept_of (not_of t) ws)
