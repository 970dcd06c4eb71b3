-- Where rows lie in a new copy.
--
-- 1. Rows are taken in their order. A page takes its first row, and each next row that leaves
--    PCTFREE of the page's room free.
-- 2. Slots are numbered in order. Where FREEPAGE is n above 0, an empty page follows each n filled
--    ones.
-- 3. The new places are those of `spots_from`, which says how the rows of a table are packed. Here
--    each row keeps the place of its old home beside it.
use Rattle.std.specs.Prelude.{◌≡◌, ℕ, ◌+◌, ◌-◌, ◌==◌, false, suc, List, [], ◌∷◌, nat_le, length}
use Rattle.std.specs.Prelude.{filter, if◌then◌else◌, Option, Some, None, is_some}
use Rattle.std.specs.List.{AllByRecursion, list_any}
use Rattle.rg_base.specs.declared.options.Options.{Options}
use Rattle.rg_base.specs.declared.place.Place.{Place}
use Rattle.rg_base.specs.declared.row.Row.{Row}
use Rattle.rg_base.specs.Place.{same_place}
use Rattle.rg_model.specs.Packed.{area_of, free_part, home_spot, page_at}
use Rattle.rg_stmt.specs.declared.layout.Spot.{Spot}

-- a row, with its old home and its new one
pub record Moved : Type 0 where
  pub source : Place
  pub target : Place
  pub row : Row

-- a row with its old home, moved to this page and slot
abbrev pub moved_to : (page slot : ℕ) → Place × Row → Moved
moved_to page slot homed = record {
  source = homed.0;
  target = record { page = page; slot = slot };
  row = homed.1;
}

-- the rows from the k-th filled page on, of which so many slots are used and so many bytes free
abbrev pub moved_from : Options → (k slot free : ℕ) → List (Place × Row) → List Moved
moved_from options k slot free [] = []
moved_from options k slot free (homed ∷ rows) =
    if nat_le (free_part options + area_of homed.1) free
    then moved_to (page_at options.freepage k) slot homed
    ∷ moved_from options k (slot + 1) (free - area_of homed.1) rows
    else moved_to (page_at options.freepage (k + 1)) 0 homed
    ∷ moved_from options (k + 1) 1 (4064 - area_of homed.1) rows

-- all rows, packed
abbrev pub packed_rows : Options → List (Place × Row) → List Moved
packed_rows options rows = moved_from options 0 0 0 rows

-- rows on one page, from this slot on
abbrev pub moved_on : (page slot : ℕ) → List (Place × Row) → List Moved
moved_on page slot [] = []
moved_on page slot (homed ∷ rows) = moved_to page slot homed ∷ moved_on page (slot + 1) rows

-- how many of these rows a page takes, of which so many bytes are free
abbrev pub more_taken : Options → (free : ℕ) → List (Place × Row) → ℕ
more_taken options free [] = 0
more_taken options free (homed ∷ rows) =
    if nat_le (free_part options + area_of homed.1) free
    then suc (more_taken options (free - area_of homed.1) rows)
    else 0

-- how many an empty page takes
abbrev pub page_taken : Options → List (Place × Row) → ℕ
page_taken options [] = 0
page_taken options (homed ∷ rows) = suc (more_taken options (4064 - area_of homed.1) rows)

-- how many pages have rows: each has one slot 0
abbrev pub pages_filled : List Moved → ℕ
pages_filled rows = length (filter (λ moved. moved.target.slot == 0) rows)

-- the old and the new place of each row
abbrev pub pair_of : Moved → Place × Place
pair_of moved = (moved.source, moved.target)

abbrev pub pairs_of : List Moved → List (Place × Place)
pairs_of [] = []
pairs_of (moved ∷ rows) = pair_of moved ∷ pairs_of rows

-- the spot of each row
abbrev pub moved_spot : Moved → Spot
moved_spot moved = home_spot moved.target.page moved.target.slot moved.row

abbrev pub moved_spots : List Moved → List Spot
moved_spots [] = []
moved_spots (moved ∷ rows) = moved_spot moved ∷ moved_spots rows

abbrev pub rows_in : List (Place × Row) → List Row
rows_in [] = []
rows_in (homed ∷ rows) = homed.1 ∷ rows_in rows

-- each row with its new home
abbrev pub new_homes : List Moved → List (Place × Row)
new_homes [] = []
new_homes (moved ∷ rows) = (moved.target, moved.row) ∷ new_homes rows

-- another old place, and another new one
abbrev pub AreOther : Place × Place → Place × Place → Type 0
AreOther p q = (same_place p.0 q.0 ≡ false) × (same_place p.1 q.1 ≡ false)

-- no two pairs have an old place or a new one in common
abbrev pub AreOneToOne : List (Place × Place) → Type 0
AreOneToOne [] = Unit {0}
AreOneToOne (pair ∷ pairs) = AllByRecursion (AreOther pair) pairs × AreOneToOne pairs

-- the new places are exactly those that have a row
abbrev pub AreTargets : List (Place × Place) → (Place → Option Row) → Type 0
AreTargets pairs rows =
    (place : Place) → list_any (λ pair. same_place place pair.1) pairs ≡ is_some (rows place)

-- the new place of an old one
abbrev pub target_in : List (Place × Place) → Place → Option Place
target_in [] place = None
target_in (pair ∷ pairs) place =
    if same_place pair.0 place then Some pair.1 else target_in pairs place

-- the row at a place, if there is one
abbrev pub row_through : (Place → Option Row) → Option Place → Option Row
row_through row_at None = None
row_through row_at (Some place) = row_at place
