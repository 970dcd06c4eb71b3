-- Packed: how rows lie in a new copy to which nothing was changed.
-- (1) Rows go in clustering order: by clus, then by key.
-- (2) A page takes its first row, and each next row that leaves PCTFREE of the page's room free.
-- (3) Where FREEPAGE is n above 0, an empty page follows each n filled ones.
-- (4) Slots are numbered in order, and each area is as long as its row.
use Rattle.std.specs.Prelude.{ℕ, ◌==◌, ◌&&◌, ◌||◌, ◌+◌, ◌-◌, ◌*◌, ◌/◌, nat_le, nat_lt, Bool}
use Rattle.std.specs.Prelude.{List, [], ◌∷◌, None, if◌then◌else◌, length, map, filter}
use Rattle.rg_base.specs.declared.options.Options.{Options}
use Rattle.rg_base.specs.declared.row.Row.{Row}
use Rattle.rg_stmt.specs.declared.layout.Spot.{Spot}
use Rattle.rg_model.specs.State.{Table, entries_of}

-- a slot takes 18 bytes and its row's: three numbers, the text's length and the text
abbrev pub area_of : Row → ℕ
area_of row = 18 + (26 + length row.text)

-- PCTFREE: what stays free of a page's 4,064 bytes
abbrev pub free_part : Options → ℕ
free_part options = 4064 * options.pctfree / 100

-- FREEPAGE: the number of the k-th filled page
abbrev pub page_at : (freepage k : ℕ) → ℕ
page_at freepage k = if freepage == 0 then k else k + (k - 1) / freepage

-- all pages, where k are filled
abbrev pub page_count : (freepage k : ℕ) → ℕ
page_count freepage k = if freepage == 0 then k else k + k / freepage

-- by clus, then by key
abbrev pub is_row_before : Row → Row → Bool
is_row_before a b = nat_lt a.clus b.clus || (a.clus == b.clus && nat_lt a.key b.key)

abbrev pub put_row : Row → List Row → List Row
put_row row [] = row ∷ []
put_row row (r ∷ rs) = if is_row_before row r then row ∷ r ∷ rs else r ∷ put_row row rs

abbrev pub clustered_rows : List Row → List Row
clustered_rows [] = []
clustered_rows (row ∷ rows) = put_row row (clustered_rows rows)

-- a row at home
abbrev pub home_spot : (page slot : ℕ) → Row → Spot
home_spot page slot row =
    record {
      place = record { page = page; slot = slot };
      key = row.key;
      clus = row.clus;
      over = None;
    }

-- the spots of rows from the k-th filled page on, of which so many slots are used and so many bytes
-- free
abbrev pub spots_from : Options → (k slot free : ℕ) → List Row → List Spot
spots_from options k slot free [] = []
spots_from options k slot free (row ∷ rows) =
    if nat_le (free_part options + area_of row) free
    then home_spot (page_at options.freepage k) slot row
    ∷ spots_from options k (slot + 1) (free - area_of row) rows
    else home_spot (page_at options.freepage (k + 1)) 0 row
    ∷ spots_from options (k + 1) 1 (4064 - area_of row) rows

abbrev pub packed_spots : Options → Table → List Spot
packed_spots options table =
    spots_from options 0 0 0 (clustered_rows (map (λ entry. entry.1) (entries_of table)))

-- each filled page has one slot 0
abbrev pub packed_pages : Options → Table → ℕ
packed_pages options table =
    page_count options.freepage
    (length (filter (λ spot. spot.place.slot == 0) (packed_spots options table)))
