-- What the undo of a unit does in a space with several live units.
use Rattle.std.specs.Prelude.{◌≡◌, ℕ, List, Option, None}
use Rattle.rg_base.specs.declared.place.Place.{Place}
use Rattle.rg_base.specs.declared.row.Row.{Row as TableRow}
use Rattle.rg_home.specs.Able.{AllUndoable}
use Rattle.rg_home.specs.Pages.{slot_of}
use Rattle.rg_home.specs.Rows.{row_at}
use Rattle.rg_home.specs.Slot.{Slot}
use Rattle.rg_home.specs.Undo.{undone_all}
use Rattle.rg_home.specs.Written.{Written}
use Rattle.rg_laws_pages.specs.UndoRoom.Ready.{Ready, only, without, HasHome, NoHome}
use Rattle.rg_record.specs.declared.record.Record.{Record}
use Rattle.rg_undo.specs.Unit.{writes_of}

-- a unit's Changes are those that its undo takes back, and afterwards the space is ready for the
-- other units; each home of the unit has its committed row, and each other place the row it had
pub record UnitBack
    (live : List ℕ) (pages : List (List Slot)) (cs : List Written)
    (base : Place → Option TableRow) (t : ℕ) (entries : List Record) : Type 0 where
  pub can : AllUndoable None (slot_of pages) (writes_of entries)
  pub ready : Ready live (undone_all pages (writes_of entries)) (without t cs) base
  pub homes :
      (p : Place) → HasHome t p cs
      → row_at (slot_of (undone_all pages (writes_of entries))) p ≡ base p
  pub others :
      (p : Place) → NoHome p (only t cs)
      → row_at (slot_of (undone_all pages (writes_of entries))) p ≡ row_at (slot_of pages) p

-- so where a space is ready, a unit can be undone by the records of its writes
abbrev pub UnitGoesBack : Type 0
UnitGoesBack =
    (live : List ℕ) (pages : List (List Slot)) (cs : List Written)
    (base : Place → Option TableRow) (t : ℕ) (entries : List Record)
    → Ready live pages cs base → writes_of entries ≡ only t cs
    → UnitBack live pages cs base t entries
