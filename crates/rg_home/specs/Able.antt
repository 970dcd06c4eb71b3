-- What an undo needs, and what every record leaves.
--
-- 1. A write can be undone where its home is there, and the row before fits the home or the Over
--    area that it had. This is said of two slots alone, and no undo is run to say it.
-- 2. Such an area may be dead. Between records it must then be the unit's own, since a purge spares
--    areas by their owner. Within one undo any owner will do.
-- 3. Writes of units that are live can all be undone, and no two units have written at one home.
--    That is what locks give, and what a rollback and a restart rely on.
-- 4. Pages are proper: tied, within their bytes, and each row within its area. Every record keeps
--    it.
use Rattle.rg_base.specs.RowBytes.{row_size}
use Rattle.std.specs.Prelude.{◌≡◌, ◌==◌, ℕ, ◌≤◌, ◌⊎◌, true, List, [], ◌∷◌, Option, Some, None}
use Rattle.std.specs.List.{list_any}
use Rattle.rg_base.specs.declared.place.Place.{Place}
use Rattle.rg_base.specs.declared.row.Row.{Row as TableRow}
use Rattle.rg_home.specs.Slot.{Slot}
use Rattle.rg_home.specs.Slot.{Free, Row, Pointer, Over, DeadRow, DeadPointer, DeadOver}
use Rattle.rg_home.specs.Slots.{capacity_of}
use Rattle.rg_home.specs.Rows.{Tied}
use Rattle.rg_home.specs.Pages.{slot_of, Sound}
use Rattle.rg_home.specs.Written.{Written}
use Rattle.rg_home.specs.Undo.{over_before}

-- of the owner that is asked for, or of any
abbrev pub Owned : Option ℕ → ℕ → Type 0
Owned None u = Unit {0}
Owned (Some t) u = u ≡ t

-- a home, which may be dead of this owner
abbrev pub IsHomeOf : Option ℕ → Slot → Type 0
IsHomeOf by (Row capacity row) = Unit {0}
IsHomeOf by (Pointer capacity other) = Unit {0}
IsHomeOf by (DeadRow capacity owner) = Owned by owner
IsHomeOf by (DeadPointer capacity other owner) = Owned by owner
IsHomeOf by Free = ⊥
IsHomeOf by (Over capacity row home) = ⊥
IsHomeOf by (DeadOver capacity home owner) = ⊥

-- an Over area of this home, which may be dead of this owner
abbrev pub IsAreaOf : Option ℕ → Place → Slot → Type 0
IsAreaOf by home (Over capacity row other) = other ≡ home
IsAreaOf by home (DeadOver capacity other owner) = (other ≡ home) × Owned by owner
IsAreaOf by home Free = ⊥
IsAreaOf by home (Row capacity row) = ⊥
IsAreaOf by home (Pointer capacity other) = ⊥
IsAreaOf by home (DeadRow capacity owner) = ⊥
IsAreaOf by home (DeadPointer capacity other owner) = ⊥

-- there is an Over area of this home that holds b bytes
abbrev pub AreaHolds : Option ℕ → (Place → Slot) → Place → ℕ → Option Place → Type 0
AreaHolds by at home b None = ⊥
AreaHolds by at home b (Some q) = IsAreaOf by home (at q) × (b ≤ capacity_of (at q))

-- the row before, if there was one, fits its home, or the Over area that it had
abbrev pub RowFits :
    Option ℕ → (Place → Slot) → Place → Option TableRow → Option Place → Type 0
RowFits by at home None over = Unit {0}
RowFits by at home (Some row) over =
    (row_size row ≤ capacity_of (at home)) ⊎ AreaHolds by at home (row_size row) over

-- a write can be undone: its home is there, and the row before fits
pub record Undoable (by : Option ℕ) (at : Place → Slot) (c : Written) : Type 0 where
  pub home : IsHomeOf by (at c.home)
  pub fits : RowFits by at c.home c.before (over_before c.parts)

-- each of these can be undone
abbrev pub AllUndoable : Option ℕ → (Place → Slot) → List Written → Type 0
AllUndoable by at [] = Unit {0}
AllUndoable by at (c ∷ cs) = Undoable by at c × AllUndoable by at cs

-- a unit that has neither committed nor been undone
abbrev pub IsLive : List ℕ → ℕ → Type 0
IsLive live t = list_any (λ u. u == t) live ≡ true

-- each of these can be undone by its unit, which is live
abbrev pub CanUndo : List ℕ → (Place → Slot) → List Written → Type 0
CanUndo live at [] = Unit {0}
CanUndo live at (c ∷ cs) =
    Undoable (Some c.owner) at c × IsLive live c.owner × CanUndo live at cs

-- no other unit of these has written at this home
abbrev pub HomeOf : ℕ → Place → List Written → Type 0
HomeOf t home [] = Unit {0}
HomeOf t home (c ∷ cs) = (c.home ≡ home → c.owner ≡ t) × HomeOf t home cs

-- homes of different units differ
abbrev pub Apart : List Written → Type 0
Apart [] = Unit {0}
Apart (c ∷ cs) = HomeOf c.owner c.home cs × Apart cs

-- a row has room in its area
abbrev pub Holds : Slot → Type 0
Holds (Row capacity row) = row_size row ≤ capacity
Holds (Over capacity row home) = row_size row ≤ capacity
Holds Free = Unit {0}
Holds (Pointer capacity other) = Unit {0}
Holds (DeadRow capacity owner) = Unit {0}
Holds (DeadPointer capacity other owner) = Unit {0}
Holds (DeadOver capacity home owner) = Unit {0}

-- each row has
abbrev pub AllHold : (Place → Slot) → Type 0
AllHold at = (p : Place) → Holds (at p)

-- pointers are tied, pages within their bytes, and rows within their areas
pub record Proper (pages : List (List Slot)) : Type 0 where
  pub tied : Tied (slot_of pages)
  pub sound : Sound pages
  pub holds : AllHold (slot_of pages)
