-- Which entries are those of rows with places.
use Rattle.std.specs.Prelude.{ℕ, ◌≡◌, ◌==◌, Bool, false, List, [], ◌∷◌, Option, Some, None}
use Rattle.std.specs.Prelude.{if◌then◌else◌}
use Rattle.std.specs.FinMap as fin
use Rattle.rg_base.specs.declared.place.Place.{Place}
use Rattle.rg_base.specs.declared.row.Row.{Row}
use Rattle.rg_base.specs.declared.which.Which.{Which}
use Rattle.rg_stmt.specs.declared.layout.Spot.{Spot}
use Rattle.rg_base.specs.Place.{same_place}
use Rattle.rg_model.specs.Layout.{value_of}
use Rattle.rg_model.specs.State.{Table}
use Rattle.rg_index.specs.Entries.{has_entry}

-- there is a row, and it has the value
abbrev pub has_value : Which → ℕ → Option Row → Bool
has_value which value None = false
has_value which value (Some row) = value == value_of which row

-- the entries are those of the rows at their places, and no others
abbrev pub IsListingOf : Which → (Place → Option Row) → List (ℕ × Place) → Type 0
IsListingOf which row_at entries = (value : ℕ) (place : Place) →
    has_entry entries (value, place) ≡ has_value which value (row_at place)

-- one place has this row afterwards, or none, and every other has what it had
pub record SetsRow (old new : Place → Option Row) (place : Place) (row : Option Row) : Type 0 where
  pub set : new place ≡ row
  pub others : (other : Place) → same_place other place ≡ false → new other ≡ old other

-- the row of the table that has its spot at a place
abbrev pub spot_row : Table → List Spot → Place → Option Row
spot_row table [] place = None
spot_row table (spot ∷ spots) place =
    if same_place place spot.place then fin.get table spot.key else spot_row table spots place
