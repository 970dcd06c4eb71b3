-- The texts of layouts. A side's lines each begin with the end of the line before and two spaces.
use Rattle.std.specs.Prelude.{ℕ, Bool, if◌then◌else◌, Option, Some, None, is_some, List, [], ◌++◌}
use Rattle.std.specs.Prelude.{length, codes, count_by, flat_map}
use Rattle.std.specs.Fmt.{decimal}
use Rattle.rg_base.specs.declared.place.Place.{Place}
use Rattle.rg_base.specs.declared.which.Which.{Which}
use Rattle.rg_base.specs.declared.which.Which.TheVariants.{Key, Clus, Cat}
use Rattle.rg_stmt.specs.declared.layout.Side.{Side}
use Rattle.rg_stmt.specs.declared.layout.Sides.{Sides}
use Rattle.rg_stmt.specs.declared.layout.Spot.{Spot}

-- a page, a point and a slot
abbrev pub place_text : Place → List ℕ
place_text place = decimal place.page ++ codes "." ++ decimal place.slot

-- that a row lies at home, or the place to which it was moved
abbrev pub over_text : Option Place → List ℕ
over_text None = codes "HOME"
over_text (Some place) = codes "OVER " ++ place_text place

-- a spot: its home, its key and clus, and where its row lies
abbrev pub spot_line : Spot → List ℕ
spot_line spot =
    codes "\n  SPOT " ++ place_text spot.place ++ codes " " ++ decimal spot.key ++ codes " "
    ++ decimal spot.clus ++ codes " " ++ over_text spot.over

-- the name of an index
abbrev pub which_text : Which → List ℕ
which_text Key = codes "KEY"
which_text Clus = codes "CLUS"
which_text Cat = codes "CAT"

-- an entry of an index: the value and the place
abbrev pub listing_line : Which → ℕ × Place → List ℕ
listing_line which entry =
    codes "\n  " ++ which_text which ++ codes " " ++ decimal entry.0 ++ codes " "
    ++ place_text entry.1

-- whether a row was moved
abbrev pub is_over : Spot → Bool
is_over spot = is_some spot.over

-- the pages, the spots and the moved rows of a side, by their numbers
abbrev pub side_line : List ℕ → Side → List ℕ
side_line name side =
    codes "\n  " ++ name ++ codes " pages=" ++ decimal side.pages ++ codes " rows="
    ++ decimal (length side.spots) ++ codes " over=" ++ decimal (count_by is_over side.spots)

-- each spot and each entry of the three indexes, in their orders
abbrev pub side_details : Side → List ℕ
side_details side =
    flat_map spot_line side.spots ++ flat_map (listing_line Key) side.keys
    ++ flat_map (listing_line Clus) side.cluses ++ flat_map (listing_line Cat) side.cats

-- a side, in full or in brief
abbrev pub side_text : Bool → List ℕ → Side → List ℕ
side_text full name side = side_line name side ++ (if full then side_details side else [])

-- a layout that was shown
abbrev pub layout_text : Bool → ℕ → Side → List ℕ
layout_text full copy side =
    codes "LAYOUT copy=" ++ decimal copy ++ side_text full (codes "NOW") side

-- a switch: the copy that is current now, and the layouts before and after
abbrev pub switched_text : Bool → ℕ → Sides → List ℕ
switched_text full copy sides =
    codes "SWITCHED copy=" ++ decimal copy ++ side_text full (codes "OLD") sides.old
    ++ side_text full (codes "NEW") sides.new
