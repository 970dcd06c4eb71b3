-- Rows that are packed on one page.
use Rattle.std.specs.Prelude.{ℕ, List, map, Some}
use Rattle.std.specs.List.{AllByRecursion}
use Rattle.rg_base.specs.RowBytes.{row_bytes, row_size}
use Rattle.rg_base.specs.declared.place.Place.{Place}
use Rattle.rg_base.specs.declared.row.Row.{Row as TableRow}
use Rattle.rg_home.specs.Slot.{Slot}
use Rattle.rg_home.specs.Slot.{Row}
use Rattle.rg_page.specs.Changed.{IsShown}

-- a Row slot for each row, in order, each area as long as its row
abbrev pub packed_slots : List (Place × TableRow) → List Slot
packed_slots rows = map (λ homed. Row (row_size homed.1) homed.1) rows

-- the bytes of each row, in order
abbrev pub packed_bytes : List (Place × TableRow) → List (List ℕ)
packed_bytes rows = map (λ homed. row_bytes homed.1) rows

-- each row's bytes show it
abbrev pub AreShown : List (Place × TableRow) → Type 0
AreShown rows = AllByRecursion (λ homed. IsShown (Some homed.1)) rows
