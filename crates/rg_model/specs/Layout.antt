-- Right side: when the layout of a copy is right for a table.
-- (1) The homes of the spots rise. They and the places of moved rows are on pages 1 to `pages`, and
--     no place stands twice.
-- (2) Each key of the table is in exactly one spot, no other key is, and its `clus` is its row's.
-- (3) Each listing is the sorted list of the rows' values with their homes.
use Rattle.std.specs.Prelude.{ℕ, ◌==◌, ◌&&◌, ◌||◌, ◌+◌, nat_le, Bool, true, false, not, List, []}
use Rattle.std.specs.Prelude.{◌∷◌, ◌++◌, Option, Some, None, if◌then◌else◌, length, map, filter}
use Rattle.std.specs.List.{flat_map, list_all}
use Rattle.rg_base.specs.declared.place.Place.{Place}
use Rattle.rg_base.specs.declared.row.Row.{Row}
use Rattle.rg_base.specs.declared.which.Which.{Which}
use Rattle.rg_base.specs.declared.which.Which.TheVariants.{Key, Clus, Cat}
use Rattle.rg_stmt.specs.declared.layout.Side.{Side}
use Rattle.rg_stmt.specs.declared.layout.Spot.{Spot}
use Rattle.rg_model.specs.Same.{same_list}
use Rattle.rg_model.specs.State.{Table, row_of, entries_of}
use Rattle.rg_base.specs.Place.{same_place}

-- by page, then by slot
abbrev pub is_place_before : Place → Place → Bool
is_place_before a b = nat_le (a.page + 1) b.page || (a.page == b.page && nat_le (a.slot + 1) b.slot)

-- by value, then by place
abbrev pub is_entry_before : ℕ × Place → ℕ × Place → Bool
is_entry_before a b = nat_le (a.0 + 1) b.0 || (a.0 == b.0 && is_place_before a.1 b.1)

-- each place is behind the one before it
abbrev pub are_rising : List Place → Bool
are_rising [] = true
are_rising (place ∷ places) =
    list_all (λ later. is_place_before place later) places && are_rising places

-- no place stands twice
abbrev pub are_different : List Place → Bool
are_different [] = true
are_different (place ∷ places) =
    list_all (λ later. not (same_place place later)) places && are_different places

abbrev pub one_place : Option Place → List Place
one_place None = []
one_place (Some place) = place ∷ []

abbrev pub homes : List Spot → List Place
homes spots = map (λ spot. spot.place) spots

-- where rows lie that don't lie at home
abbrev pub overs : List Spot → List Place
overs spots = flat_map (λ spot. one_place spot.over) spots

abbrev pub is_on_page : ℕ → Place → Bool
is_on_page pages place = nat_le 1 place.page && nat_le place.page pages

-- the key has a row, and the row this `clus`
abbrev pub has_clus : ℕ → Option Row → Bool
has_clus clus None = false
has_clus clus (Some row) = row.clus == clus

-- each key of the table is in exactly one spot, no other key is, and its `clus` is its row's
abbrev pub are_spots_of : Table → List Spot → Bool
are_spots_of table spots =
    list_all (λ entry. length (filter (λ spot. spot.key == entry.0) spots) == 1) (entries_of table)
    && list_all (λ spot. has_clus spot.clus (row_of table spot.key)) spots

-- the value that an index lists
abbrev pub value_of : Which → Row → ℕ
value_of Key row = row.key
value_of Clus row = row.clus
value_of Cat row = row.cat

abbrev pub listed_entry : Which → Place → Option Row → List (ℕ × Place)
listed_entry which place None = []
listed_entry which place (Some row) = (value_of which row, place) ∷ []

-- in its place
abbrev pub put_entry : ℕ × Place → List (ℕ × Place) → List (ℕ × Place)
put_entry entry [] = entry ∷ []
put_entry entry (e ∷ es) =
    if is_entry_before entry e then entry ∷ e ∷ es else e ∷ put_entry entry es

abbrev pub sorted_entries : List (ℕ × Place) → List (ℕ × Place)
sorted_entries [] = []
sorted_entries (e ∷ es) = put_entry e (sorted_entries es)

-- the sorted list of the values and places of the rows that have these spots
abbrev pub listing : Which → Table → List Spot → List (ℕ × Place)
listing which table spots =
    sorted_entries (flat_map (λ spot. listed_entry which spot.place (row_of table spot.key)) spots)

abbrev pub same_entry : ℕ × Place → ℕ × Place → Bool
same_entry a b = a.0 == b.0 && same_place a.1 b.1

abbrev pub is_listing : Which → Table → Side → List (ℕ × Place) → Bool
is_listing which table side entries = same_list same_entry entries (listing which table side.spots)

-- Homes rise. Homes and the places of moved rows are on the copy's pages, and no place stands
-- twice. The spots are the table's, and so is each listing.
abbrev pub is_right_side : Table → Side → Bool
is_right_side table side =
    are_rising (homes side.spots)
    && (list_all (is_on_page side.pages) (homes side.spots ++ overs side.spots)
    && (are_different (homes side.spots ++ overs side.spots)
    && (are_spots_of table side.spots
    && (is_listing Key table side side.keys
    && (is_listing Clus table side side.cluses
    && is_listing Cat table side side.cats)))))
