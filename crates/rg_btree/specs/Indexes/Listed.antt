-- The rows that entries list.
use Rattle.std.specs.Prelude.{ℕ, List, Option, Some, None, map}
use Rattle.std.specs.List.{filter_map}
use Rattle.rg_base.specs.declared.place.Place.{Place}
use Rattle.rg_base.specs.declared.row.Row.{Row}

-- a row with the value of its entry, if there is a row
abbrev pub with_value : ℕ → Option Row → Option (ℕ × Row)
with_value value None = None
with_value value (Some row) = Some (value, row)

-- the rows at the places of entries, in order, each with the value of its entry
abbrev pub keyed_rows : (Place → Option Row) → List (ℕ × Place) → List (ℕ × Row)
keyed_rows rows entries = filter_map (λ entry. with_value entry.0 (rows entry.1)) entries

-- the rows at the places of entries, in order
abbrev pub listed_rows : (Place → Option Row) → List (ℕ × Place) → List Row
listed_rows rows entries = filter_map (λ entry. rows entry.1) entries

-- the keys of these rows
abbrev pub listed_keys : (Place → Option Row) → List (ℕ × Place) → List ℕ
listed_keys rows entries = map (λ row. row.key) (listed_rows rows entries)
