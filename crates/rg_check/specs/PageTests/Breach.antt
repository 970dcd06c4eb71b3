-- What the undo of a Change lacks, and the place that is named.
--
-- 1. The home has to be there: a Row or a Pointer. Where there was a row before, it may be dead.
-- 2. The row before has to fit the home, or else the Over area that it had. That area has to be
--    there, dead or not, name the home, and hold the row.
-- 3. The home is named where it is not right, or where no area is known. Else the area is named.
use Rattle.std.specs.Prelude.{◌≡◌, ℕ, Bool, true, false, List, Option, Some, None}
use Rattle.rg_base.specs.declared.place.Place.{Place}
use Rattle.rg_base.specs.declared.row.Row.{Row as TableRow}
use Rattle.rg_home.specs.Able.{IsHomeOf, RowFits}
use Rattle.rg_home.specs.Pages.{slot_of}
use Rattle.rg_home.specs.Slot.{Slot}
use Rattle.rg_home.specs.Undo.{over_before}
use Rattle.rg_home.specs.Written.{Written}
use Rattle.rg_laws_pages.specs.UndoRoom.Needed.{Needed, RowIsThere}
use Rattle.rg_check.specs.PageTests.Outline.{outline_of}
use Rattle.rg_check.specs.declared.page_tests.outline.Outline.{Outline}
use Rattle.rg_check.specs.declared.page_tests.outline.Outline.TheVariants.{Free, Row, Pointer, Over}
use Rattle.rg_check.specs.declared.page_tests.outline.Outline.TheVariants.{DeadRow, DeadPointer}
use Rattle.rg_check.specs.declared.page_tests.outline.Outline.TheVariants.{DeadOver}

-- a home, which may be dead
abbrev pub is_home : Outline → Bool
is_home (Row capacity) = true
is_home (Pointer capacity other) = true
is_home (DeadRow capacity) = true
is_home (DeadPointer capacity other owner) = true
is_home Free = false
is_home (Over capacity home) = false
is_home (DeadOver capacity home) = false

-- a home that has a row
abbrev pub has_row : Outline → Bool
has_row (Row capacity) = true
has_row (Pointer capacity other) = true
has_row Free = false
has_row (Over capacity home) = false
has_row (DeadRow capacity) = false
has_row (DeadPointer capacity other owner) = false
has_row (DeadOver capacity home) = false

-- the bytes of its area
abbrev pub capacity_in : Outline → ℕ
capacity_in Free = 0
capacity_in (Row capacity) = capacity
capacity_in (Pointer capacity other) = capacity
capacity_in (Over capacity home) = capacity
capacity_in (DeadRow capacity) = capacity
capacity_in (DeadPointer capacity other owner) = capacity
capacity_in (DeadOver capacity home) = capacity

-- the home is right, where this row was there before, or none
abbrev pub is_right : Outline → Option TableRow → Bool
is_right home None = has_row home
is_right home (Some row) = is_home home

-- the place to name: the home, or the area where the home is right
abbrev pub named_of : Place → Option Place → Bool → Place
named_of home over false = home
named_of home None true = home
named_of home (Some area) true = area

-- what the undo of a write needs, of the slots at these places
abbrev pub IsNeeded :
    (Place → Slot) → Place → Option TableRow → Option Place → Type 0
IsNeeded at home before over =
    IsHomeOf None (at home) × RowFits None at home before over × RowIsThere (at home) before

-- it has what it needs, or lacks something, and this is the place to name
abbrev pub IsBreach :
    (Place → Slot) → Place → Option TableRow → Option Place → Option Place → Type 0
IsBreach at home before over None = IsNeeded at home before over
IsBreach at home before over (Some p) =
    (IsNeeded at home before over → ⊥)
    × (p ≡ named_of home over (is_right (outline_of (at home)) before))

-- the same of a write on these pages
abbrev pub BreaksOf : List (List Slot) → Written → Option Place → Type 0
BreaksOf pages c None = Needed pages c
BreaksOf pages c (Some p) =
    (Needed pages c → ⊥)
    × (p ≡ named_of c.home (over_before c.parts)
    (is_right (outline_of (slot_of pages c.home)) c.before))
