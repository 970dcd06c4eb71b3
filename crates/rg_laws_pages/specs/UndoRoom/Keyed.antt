-- Locks by key, and homes.
--
-- 1. A unit locks the key of a row before it writes the row, and keeps the lock until it ends.
-- 2. So the row at the home of a live write, and the row before, have keys that its unit has
--    locked. A unit that writes a row whose key it alone has locked finds no other unit's write at
--    the home.
use Rattle.std.specs.Prelude.{◌≡◌, ℕ, List, [], ◌∷◌, Option, Some, None}
use Rattle.rg_base.specs.declared.place.Place.{Place}
use Rattle.rg_base.specs.declared.row.Row.{Row as TableRow}
use Rattle.rg_home.specs.Slot.{Slot}
use Rattle.rg_home.specs.Rows.{row_at}
use Rattle.rg_home.specs.Written.{Written}

-- the row, if there is one, has a key that unit t has locked
abbrev pub LockedRow : (ℕ → Option ℕ) → ℕ → Option TableRow → Type 0
LockedRow locks t None = Unit {0}
LockedRow locks t (Some row) = locks row.key ≡ Some t

-- the row at the home of each write, and the row before it, are so by the unit that wrote
abbrev pub Keyed : (ℕ → Option ℕ) → (Place → Slot) → List Written → Type 0
Keyed locks at [] = Unit {0}
Keyed locks at (c ∷ cs) =
    LockedRow locks c.owner (row_at at c.home)
    × LockedRow locks c.owner c.before
    × Keyed locks at cs
