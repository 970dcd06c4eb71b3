-- What the tests show.
--
-- 1. Where no place is named, all slots tie, as undo asks; and pages on which each record of an own
--    log was redone name no place (`TestsTie`).
-- 2. Where the home rows are the stored rows and no key stands twice, they are one table
--    (`TestsGiveTable`).
-- 3. Units may be tested and undone one after the other (`TurnsJoin`).
use Rattle.std.specs.Prelude.{◌≡◌, ◌++◌, ℕ, List, Option, None}
use Rattle.std.specs.FinMap as map
use Rattle.rg_base.specs.declared.place.Place.{Place}
use Rattle.rg_base.specs.declared.row.Row.{Row as TableRow}
use Rattle.rg_home.specs.Rows.{Tied}
use Rattle.rg_home.specs.Slot.{Slot}
use Rattle.rg_home.specs.Undo.{undone_all}
use Rattle.rg_home.specs.Written.{Written}
use Rattle.rg_home.specs.Table.{IsTable}
use Rattle.rg_laws_pages.specs.UndoRoom.Dead.{DeadNames}
use Rattle.rg_laws_pages.specs.UndoRoom.Needed.{NeededInTurn}
use Rattle.rg_check.specs.PageTests.Keys.{IsAlone}
use Rattle.rg_check.specs.PageTests.Places.{IsLeastBreach}
use Rattle.rg_check.specs.PageTests.StoredRows.{StoredRows, Stands}
use Rattle.rg_check.specs.PageTests.Ties.{DeadTiesAt, IsTiedAt}
use Rattle.rg_check.specs.declared.page_tests.stored.Standing.TheVariants.{Stored}

-- where no place is named, all slots tie; and where dead homes of open units name areas of these
-- units, as each record keeps it, none is named
pub record TestsTie : Type 0 where
  pub tied :
      (live : List ℕ) (at : Place → Slot) → IsLeastBreach (IsTiedAt live at) None
      → Tied at × ((p : Place) → DeadTiesAt live at p (at p))
  pub none :
      (live : List ℕ) (at : Place → Slot) → Tied at → DeadNames live at
      → IsLeastBreach (IsTiedAt live at) None

-- where both tests of home rows pass, these and the stored rows are one table
abbrev pub TestsGiveTable : Type 0
TestsGiveTable =
    (stored : StoredRows) (homes : Place → Option TableRow) → Stands stored homes Stored
    → IsLeastBreach (IsAlone homes) None → IsTable homes (λ k. map.get stored k)

-- one unit tested and undone, and then others, are all of them tested and undone
abbrev pub TurnsJoin : Type 0
TurnsJoin =
    (pages : List (List Slot)) (cs ds : List Written) → NeededInTurn pages cs
    → NeededInTurn (undone_all pages cs) ds
    → NeededInTurn pages (cs ++ ds)
    × (undone_all pages (cs ++ ds) ≡ undone_all (undone_all pages cs) ds)
