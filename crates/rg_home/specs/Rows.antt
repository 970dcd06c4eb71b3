-- Home rows: the row of each home, wherever it lies.
--
-- 1. All is said of a look-up of slots by place, so it holds of pages in memory, of an image, and
--    of pages between two parts of a record.
-- 2. Pointers and Over areas tie: whatever names a place is named by it. So a row has one home and
--    one place where it lies, and no two homes have the same Over area.
-- 3. A write changes the row of its home alone. It moves no other row: an unload, an index, and the
--    other units rely on finding each row where it was.
use Rattle.std.specs.Prelude.{◌≡◌, Bool, true, false, List, [], ◌∷◌, Option, Some, None}
use Rattle.std.specs.Prelude.{if◌then◌else◌}
use Rattle.rg_base.specs.declared.place.Place.{Place}
use Rattle.rg_base.specs.declared.row.Row.{Row as TableRow}
use Rattle.rg_home.specs.Slot.{Slot}
use Rattle.rg_home.specs.Slot.{Row, Pointer, Over, DeadRow, DeadPointer, DeadOver}
use Rattle.rg_base.specs.Place.{same_place}

-- the row that lies in an Over area
abbrev pub over_row : Slot → Option TableRow
over_row (Over capacity row home) = Some row
over_row _ = None

-- the row whose home has this slot
abbrev pub home_row : (Place → Slot) → Slot → Option TableRow
home_row at (Row capacity row) = Some row
home_row at (Pointer capacity other) = over_row (at other)
home_row at _ = None

-- the row whose home is at this place
abbrev pub row_at : (Place → Slot) → Place → Option TableRow
row_at at home = home_row at (at home)

-- an Over area that names this home
abbrev pub IsOverOf : Place → Slot → Type 0
IsOverOf home (Over capacity row other) = other ≡ home
IsOverOf home _ = ⊥

-- a Pointer that names this Over area
abbrev pub IsPointerTo : Place → Slot → Type 0
IsPointerTo over (Pointer capacity other) = other ≡ over
IsPointerTo over _ = ⊥

-- a Pointer or an Over at this place is named by what it names
abbrev pub TiesAt : (Place → Slot) → Place → Slot → Type 0
TiesAt at p (Pointer capacity other) = IsOverOf p (at other)
TiesAt at p (Over capacity row home) = IsPointerTo p (at home)
TiesAt at p _ = Unit {0}

-- each of them is
abbrev pub Tied : (Place → Slot) → Type 0
Tied at = (p : Place) → TiesAt at p (at p)

-- one slot set
abbrev pub override : (Place → Slot) → Place → Slot → Place → Slot
override at p s q = if same_place q p then s else at q

-- slots set, in order
abbrev pub overrides : (Place → Slot) → List (Place × Slot) → Place → Slot
overrides at [] = at
overrides at (w ∷ ws) = overrides (override at w.0 w.1) ws

-- where the row lies whose home p has this slot: at p itself, or in the Over area that p names
abbrev pub lies_at : Place → Slot → Option Place
lies_at p (Row capacity row) = Some p
lies_at p (Pointer capacity other) = Some other
lies_at p _ = None

-- the row at home becomes this one, or none; each other row is the same and lies where it lay
pub record ChangesHome (at after : Place → Slot) (home : Place) (row : Option TableRow)
    : Type 0 where
  pub here : row_at after home ≡ row
  pub others : (q : Place) → same_place q home ≡ false → row_at after q ≡ row_at at q
  pub lie : (q : Place) → same_place q home ≡ false → lies_at q (after q) ≡ lies_at q (at q)
  pub tied : Tied after

-- neither Pointer nor Over
abbrev pub is_plain : Slot → Bool
is_plain (Pointer capacity other) = false
is_plain (Over capacity row home) = false
is_plain _ = true

-- the row of a slot that lies at its home
abbrev pub plain_row : Slot → Option TableRow
plain_row (Row capacity row) = Some row
plain_row _ = None

-- an area that was left, or whose row was dropped
abbrev pub is_dead : Slot → Bool
is_dead (DeadRow capacity owner) = true
is_dead (DeadPointer capacity other owner) = true
is_dead (DeadOver capacity home owner) = true
is_dead _ = false
