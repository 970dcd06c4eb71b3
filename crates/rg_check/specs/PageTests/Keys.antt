-- Keys of rows, and those that stand at more than one place.
--
-- 1. The place of a row is its home, wherever the row lies.
-- 2. Places are noted by the keys of their rows: the first place of each key, or any.
use Rattle.std.specs.Prelude.{◌≡◌, ℕ, Option, Some, None}
use Rattle.std.specs.FinMap as map
use Rattle.std.specs.Ordering.{nat_cmp}
use Rattle.rg_base.specs.declared.place.Place.{Place}
use Rattle.rg_base.specs.declared.row.Row.{Row as TableRow}

-- no other place has a row of this place's key
abbrev pub IsAlone : (Place → Option TableRow) → Place → Type 0
IsAlone homes p =
    (q : Place) (row other : TableRow) → homes p ≡ Some row → homes q ≡ Some other
    → row.key ≡ other.key → p ≡ q

-- some place has a row of this key
abbrev pub HasHome : (Place → Option TableRow) → ℕ → Type 0
HasHome homes k = (p : Place) × (row : TableRow) × (homes p ≡ Some row) × (row.key ≡ k)

-- places, by the keys of their rows
abbrev pub Notes : Type 0
Notes = map.FinMap nat_cmp Place

-- a place noted by the key of its row, if it has one
abbrev pub noted : Notes → Place → Option TableRow → Notes
noted notes p None = notes
noted notes p (Some row) = map.insert notes row.key p

-- a place noted by this key, if none is
abbrev pub noted_if : Option Place → Notes → ℕ → Place → Notes
noted_if None notes k p = map.insert notes k p
noted_if (Some first) notes k p = notes

-- a place noted by the key of its row, if that is the first one
abbrev pub first_noted : Notes → Place → Option TableRow → Notes
first_noted notes p None = notes
first_noted notes p (Some row) = noted_if (map.get notes row.key) notes row.key p

-- the place that is noted by the key of this row, if there is one
abbrev pub noted_by : Notes → Option TableRow → Option Place
noted_by notes None = None
noted_by notes (Some row) = map.get notes row.key
