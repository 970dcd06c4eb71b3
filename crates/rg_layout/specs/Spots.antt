-- The spots of the rows on pages.
--
-- 1. Each row has one spot, at its home, with its key and its `clus`, wherever it lies.
-- 2. Spots rise by place.
use Rattle.std.specs.Prelude.{ℕ, zero, suc, List, [], ◌∷◌, ◌++◌, Option, Some, None, length}
use Rattle.std.specs.List.{flat_map}
use Rattle.rg_base.specs.declared.place.Place.{Place}
use Rattle.rg_base.specs.declared.row.Row.{Row}
use Rattle.rg_home.specs.Pages.{page_at, slot_of}
use Rattle.rg_home.specs.Plan.{pointed_to}
use Rattle.rg_home.specs.Rows.{row_at}
use Rattle.rg_home.specs.Slot.{Slot}
use Rattle.rg_space.specs.Homes.{place_on}
use Rattle.rg_stmt.specs.declared.layout.Spot.{Spot}

-- the places of the first so many slots of page n
abbrev pub places_on : (n count : ℕ) → List Place
places_on n zero = []
places_on n (suc i) = places_on n i ++ place_on n i ∷ []

-- the places of all slots of the first n pages
abbrev pub places_to : List (List Slot) → (n : ℕ) → List Place
places_to pages zero = []
places_to pages (suc n) =
    places_to pages n ++ places_on (suc n) (length (page_at pages (suc n)))

-- the spot of a row with this home, if there is one, and of the Over area that the home names
abbrev pub spot_of : Place → Option Place → Option Row → List Spot
spot_of home over None = []
spot_of home over (Some row) =
    record { place = home; key = row.key; clus = row.clus; over = over } ∷ []

-- the spot of this home
abbrev pub spot_at : (Place → Slot) → Place → List Spot
spot_at at home = spot_of home (pointed_to (at home)) (row_at at home)

-- the spots of the rows whose homes are on page n
abbrev pub spots_on : List (List Slot) → (n : ℕ) → List Spot
spots_on pages n = flat_map (spot_at (slot_of pages)) (places_on n (length (page_at pages n)))

-- the spots of all rows of these pages
abbrev pub spots_of : List (List Slot) → List Spot
spots_of pages = flat_map (spot_at (slot_of pages)) (places_to pages (length pages))
