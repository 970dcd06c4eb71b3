-- What a dead home of a live unit names.
--
-- 1. Where a live unit has dropped a row that had moved, the dead home names the dead Over area,
--    which is the unit's own and names the home. Each record keeps this; a test of sound pages
--    relies on it.
-- 2. It rests on fresh numbers: as a unit begins, no dead home has its number.
use Rattle.std.specs.Prelude.{ℕ, List, Some}
use Rattle.rg_base.specs.declared.place.Place.{Place}
use Rattle.rg_home.specs.Slot.{Slot}
use Rattle.rg_home.specs.Slot.{Free, Row, Pointer, Over, DeadRow, DeadPointer, DeadOver}
use Rattle.rg_home.specs.Able.{IsAreaOf, IsLive}

-- a slot at this place, if it is a dead home of a live unit, names an area of that unit
abbrev pub DeadNamed : List ℕ → (Place → Slot) → Place → Slot → Type 0
DeadNamed live at p (DeadPointer capacity other owner) =
    IsLive live owner → IsAreaOf (Some owner) p (at other)
DeadNamed live at p Free = Unit {0}
DeadNamed live at p (Row capacity row) = Unit {0}
DeadNamed live at p (Pointer capacity other) = Unit {0}
DeadNamed live at p (Over capacity row home) = Unit {0}
DeadNamed live at p (DeadRow capacity owner) = Unit {0}
DeadNamed live at p (DeadOver capacity home owner) = Unit {0}

-- each slot is so
abbrev pub DeadNames : List ℕ → (Place → Slot) → Type 0
DeadNames live at = (p : Place) → DeadNamed live at p (at p)
