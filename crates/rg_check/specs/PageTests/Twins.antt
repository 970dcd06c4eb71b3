-- Keys that stand twice, so far: before a place.
use Rattle.std.specs.Prelude.{◌≡◌, ◌||◌, ◌&&◌, ◌==◌, nat_lt, ℕ, Bool, Option, Some, None}
use Rattle.std.specs.Prelude.{if◌then◌else◌}
use Rattle.std.specs.FinMap as map
use Rattle.rg_base.specs.declared.place.Place.{Place}
use Rattle.rg_base.specs.declared.row.Row.{Row as TableRow}
use Rattle.rg_check.specs.PageTests.Keys.{Notes}
use Rattle.rg_check.specs.PageTests.Places.{IsBefore}

-- of the places before this one, no other has a row of p's key
abbrev pub IsAloneTo : (Place → Option TableRow) → (end : Place) → Place → Type 0
IsAloneTo homes end p =
    (q : Place) (row other : TableRow) → IsBefore q end → homes p ≡ Some row
    → homes q ≡ Some other → row.key ≡ other.key → p ≡ q

-- the least of the places before this one whose row's key another of them has too
abbrev pub IsLeastTwin : (Place → Option TableRow) → (end : Place) → Option Place → Type 0
IsLeastTwin homes end None = (p : Place) → IsBefore p end → IsAloneTo homes end p
IsLeastTwin homes end (Some p) =
    IsBefore p end × (IsAloneTo homes end p → ⊥)
    × ((q : Place) → IsBefore q p → IsAloneTo homes end q)

-- no place before this one has a row of this key
abbrev pub HasNone : (Place → Option TableRow) → (end : Place) → ℕ → Type 0
HasNone homes end k =
    (q : Place) (row : TableRow) → IsBefore q end → homes q ≡ Some row → row.key ≡ k → ⊥

-- the first of the places before this one that has a row of this key, if one has
abbrev pub IsFirstOf : (Place → Option TableRow) → (end : Place) → ℕ → Option Place → Type 0
IsFirstOf homes end k None = HasNone homes end k
IsFirstOf homes end k (Some p) =
    IsBefore p end × ((row : TableRow) × (homes p ≡ Some row) × (row.key ≡ k)) × HasNone homes p k

-- what is kept once the places before this one have been seen: the first place of each key, and the
-- least place whose key stands twice
pub record Kept
    (homes : Place → Option TableRow) (end : Place) (notes : Notes) (least : Option Place)
    : Type 0 where
  pub firsts : (k : ℕ) → IsFirstOf homes end k (map.get notes k)
  pub twin : IsLeastTwin homes end least

-- one place is before another
abbrev pub is_before : Place → Place → Bool
is_before p q = nat_lt p.page q.page || (p.page == q.page && nat_lt p.slot q.slot)

-- the lesser of two places, of which there may be one or none
abbrev pub lesser : Option Place → Option Place → Option Place
lesser None b = b
lesser (Some p) None = Some p
lesser (Some p) (Some q) = if is_before q p then Some q else Some p
