-- The order of rows in a new copy: by clus, then by key, then by old place.
use Rattle.std.specs.Prelude.{◌≡◌, ◌==◌, ℕ, false, List, [], ◌∷◌}
use Rattle.std.specs.List.{AllByRecursion}
use Rattle.std.specs.List.Sorted.{IsPermutation, IsSortedByKey}
use Rattle.std.specs.Ordering.{nat_cmp, ordering_then}
use Rattle.std.specs.declared.cmp.Ordering.{Ordering}
use Rattle.rg_base.specs.declared.place.Place.{Place}
use Rattle.rg_base.specs.declared.row.Row.{Row}
use Rattle.rg_model.specs.Packed.{clustered_rows}
use Rattle.rg_reload.specs.Moved.{rows_in}

-- what a row is ordered by: clus, key, page and slot
abbrev pub order_key : Place × Row → ℕ × ℕ × ℕ × ℕ
order_key homed = (homed.1.clus, homed.1.key, homed.0.page, homed.0.slot)

abbrev pub order_cmp : ℕ × ℕ × ℕ × ℕ → ℕ × ℕ × ℕ × ℕ → Ordering
order_cmp a b =
    ordering_then
    (ordering_then (ordering_then (nat_cmp a.0 b.0) (nat_cmp a.1 b.1)) (nat_cmp a.2 b.2))
    (nat_cmp a.3 b.3)

-- no row comes before one that it follows
abbrev pub IsInOrder : List (Place × Row) → Type 0
IsInOrder rows = IsSortedByKey order_key order_cmp rows

-- no two rows have the same key
abbrev pub HaveOtherKeys : List Row → Type 0
HaveOtherKeys [] = Unit {0}
HaveOtherKeys (row ∷ rows) =
    AllByRecursion (λ later. (later.key == row.key) ≡ false) rows × HaveOtherKeys rows

-- Where keys differ, rows in order are those of a table in clustering order, whatever the order in
-- which the table lists them.
abbrev pub OrderIsClustered : Type 0
OrderIsClustered = (rows : List (Place × Row)) (others : List Row) → IsInOrder rows
    → IsPermutation (rows_in rows) others → HaveOtherKeys (rows_in rows) → HaveOtherKeys others
    → rows_in rows ≡ clustered_rows others
