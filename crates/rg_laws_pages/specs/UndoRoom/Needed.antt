-- What an opening tests before it undoes.
--
-- 1. Each write, at its turn, must be one that can be undone, and where it put a row, a row must be
--    at its home. The turns come the latest first, each on the pages as undone so far.
-- 2. The same can be told of the pages before the first undo, and no undo is run to tell it. An
--    opening may test either way (`TestedBefore`).
use Rattle.std.specs.Prelude.{◌≡◌, true, List, [], ◌∷◌, Option, Some, None, if◌then◌else◌}
use Rattle.rg_base.specs.declared.place.Place.{Place}
use Rattle.rg_base.specs.declared.row.Row.{Row as TableRow}
use Rattle.rg_home.specs.Slot.{Slot}
use Rattle.rg_base.specs.Place.{same_place}
use Rattle.rg_home.specs.Pages.{slot_of}
use Rattle.rg_home.specs.Plan.{is_home}
use Rattle.rg_home.specs.Written.{Written}
use Rattle.rg_home.specs.Able.{Undoable}
use Rattle.rg_home.specs.Undo.{undone}

-- where a write had no row before, a row is at its home
abbrev pub RowIsThere : Slot → Option TableRow → Type 0
RowIsThere s None = is_home s ≡ true
RowIsThere s (Some row) = Unit {0}

-- what the undo of a write needs at its turn
abbrev pub Needed : List (List Slot) → Written → Type 0
Needed pages c = Undoable None (slot_of pages) c × RowIsThere (slot_of pages c.home) c.before

-- each has it at its turn, the latest first
abbrev pub NeededInTurn : List (List Slot) → List Written → Type 0
NeededInTurn pages [] = Unit {0}
NeededInTurn pages (c ∷ cs) = Needed pages c × NeededInTurn (undone pages c) cs

-- where a write had no row before, there is a row
abbrev pub NotNone : Option TableRow → Option TableRow → Type 0
NotNone None row = row ≡ None → ⊥
NotNone (Some before) row = Unit {0}

-- of these rows: once the later writes are taken back, the row of each write that put one is there
abbrev pub InsertsAreThere : (Place → Option TableRow) → List Written → Type 0
InsertsAreThere rows [] = Unit {0}
InsertsAreThere rows (c ∷ cs) =
    NotNone c.before (rows c.home)
    × InsertsAreThere (λ p. if same_place p c.home then c.before else rows p) cs
