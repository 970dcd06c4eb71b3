-- The rows whose homes are on a page.
use Rattle.std.specs.Prelude.{ℕ, ◌+◌, zero, suc, List, [], ◌∷◌, ◌++◌, Option, Some, None, length}
use Rattle.std.specs.Prelude.{map}
use Rattle.rg_base.specs.Values.{values_of}
use Rattle.rg_base.specs.declared.place.Place.{Place}
use Rattle.rg_base.specs.declared.row.Row.{Row}
use Rattle.rg_base.specs.declared.values.Values.{Values}
use Rattle.rg_home.specs.Pages.{page_at, slot_of}
use Rattle.rg_home.specs.Rows.{row_at}
use Rattle.rg_home.specs.Slot.{Slot}

-- slot i of page n
abbrev pub place_on : (n i : ℕ) → Place
place_on n i = record { page = n; slot = i }

-- a row with the place of its home, if there is one
abbrev pub home_with : Place → Option Row → List (Place × Row)
home_with p None = []
home_with p (Some row) = (p, row) ∷ []

-- the rows whose homes are page n's slots from i on, of so many slots
abbrev pub rows_from : (Place → Slot) → (n i count : ℕ) → List (Place × Row)
rows_from at n i zero = []
rows_from at n i (suc count) =
    home_with (place_on n i) (row_at at (place_on n i)) ++ rows_from at n (i + 1) count

-- the rows whose homes are on page n, by rising slot, each with the place of its home
abbrev pub homes_on : List (List Slot) → (n : ℕ) → List (Place × Row)
homes_on pages n = rows_from (slot_of pages) n 0 (length (page_at pages n))

-- a row's values with the place of its home
abbrev pub homed_values : Place × Row → Place × Values
homed_values homed = (homed.0, values_of homed.1)

-- the values of the rows whose homes are on page n, by rising slot
abbrev pub values_on : List (List Slot) → (n : ℕ) → List (Place × Values)
values_on pages n = map homed_values (homes_on pages n)
