-- The owners of dead areas.
use Rattle.std.specs.Prelude.{◌≤◌, ℕ}
use Rattle.rg_base.specs.declared.place.Place.{Place}
use Rattle.rg_home.specs.Slot.{Slot, Free, Row, Pointer, Over, DeadRow, DeadPointer, DeadOver}

-- a dead area has no owner above this number
abbrev pub OwnerBelow : ℕ → Slot → Type 0
OwnerBelow top (DeadRow capacity owner) = owner ≤ top
OwnerBelow top (DeadPointer capacity other owner) = owner ≤ top
OwnerBelow top (DeadOver capacity home owner) = owner ≤ top
OwnerBelow top Free = Unit {0}
OwnerBelow top (Row capacity row) = Unit {0}
OwnerBelow top (Pointer capacity other) = Unit {0}
OwnerBelow top (Over capacity row home) = Unit {0}

-- no dead area has
abbrev pub AllBelow : ℕ → (Place → Slot) → Type 0
AllBelow top at = (p : Place) → OwnerBelow top (at p)
