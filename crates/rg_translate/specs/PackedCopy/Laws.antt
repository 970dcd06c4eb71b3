-- What a new copy has that was packed from the rows of a table.
--
-- 1. Where the rows of its sources are those of a table, so are the rows at its homes
--    (`SourcesAreTable`).
-- 2. Pages that have exactly the packed rows have the spots of these rows, each at home
--    (`PackedSpots`).
-- 3. Packed rows of different keys lie at home in clustering order, and so do those of them whose
--    keys are quiet (`PackedIsQuiet`).
-- 4. Where rows by place are those of a table, in order, they are its rows in clustering order. So
--    a layout that has their spots and pages is that of a packed copy (`TableIsPacked`).
-- 5. The rows of all copies of pages, in any order, are those of the table, where all pages were
--    copied and nothing has changed since the start (`CopiesAreTable`).
use Rattle.std.specs.Prelude.{◌≡◌, ◌==◌, ℕ, Bool, true, List, Option, filter, length}
use Rattle.std.specs.List.Sorted.{IsPermutation}
use Rattle.rg_base.specs.declared.options.Options.{Options}
use Rattle.rg_base.specs.declared.place.Place.{Place}
use Rattle.rg_base.specs.declared.row.Row.{Row}
use Rattle.rg_feed.specs.Fold.Fed.{Fed, Progress}
use Rattle.rg_feed.specs.Fold.Fold.{copied_rows, row_in, since_begin}
use Rattle.rg_feed.specs.Fold.Lawful.{AreApart, Lawful}
use Rattle.rg_feed.specs.declared.fold.item.Item.{Item}
use Rattle.rg_home.specs.Pages.{slot_of}
use Rattle.rg_home.specs.Slot.{Slot}
use Rattle.rg_layout.specs.Spots.{spots_of}
use Rattle.rg_home.specs.Table.{IsTable}
use Rattle.rg_model.specs.Packed.{page_count, spots_from}
use Rattle.rg_model.specs.Right.{are_quiet_right, is_packed}
use Rattle.rg_model.specs.State.{Table, row_of}
use Rattle.rg_reload.specs.Moved.{new_homes, packed_rows, rows_in}
use Rattle.rg_reload.specs.Order.{HaveOtherKeys, IsInOrder}
use Rattle.rg_reload.specs.Pages.{slot_with}
use Rattle.rg_shadow.specs.Pieces.{IsMapped}
use Rattle.rg_shadow.specs.Shade.{Shade, home_rows, source_rows}
use Rattle.rg_stmt.specs.declared.event.Entry.{Entry}
use Rattle.rg_stmt.specs.declared.layout.Side.{Side}

abbrev pub SourcesAreTable : Type 0
SourcesAreTable =
    (s : Shade) (rows : Place → Option Row) (keys : ℕ → Option Row)
    → IsMapped s.targets (home_rows s) → ((place : Place) → source_rows s place ≡ rows place)
    → IsTable rows keys → IsTable (home_rows s) keys

-- each slot has the row that was moved there, in an area as long as it is
abbrev pub HasPacked : Options → List (Place × Row) → List (List Slot) → Type 0
HasPacked options rows pages =
    (place : Place)
    → slot_of pages place ≡ slot_with (row_in (new_homes (packed_rows options rows)) place)

abbrev pub PackedSpots : Type 0
PackedSpots =
    (options : Options) (rows : List (Place × Row)) (pages : List (List Slot))
    → HasPacked options rows pages → spots_of pages ≡ spots_from options 0 0 0 (rows_in rows)

-- `past` are the entries of a trace, the newest first
abbrev pub PackedIsQuiet : Type 0
PackedIsQuiet =
    (options : Options) (rows : List (Place × Row)) (past : List Entry)
    → IsInOrder rows → HaveOtherKeys (rows_in rows)
    → are_quiet_right past (spots_from options 0 0 0 (rows_in rows)) ≡ true

-- the pages of rows that are packed so
abbrev pub pages_packed : Options → List Row → ℕ
pages_packed options rows =
    page_count options.freepage
    (length (filter (λ spot. spot.place.slot == 0) (spots_from options 0 0 0 rows)))

abbrev pub TableIsPacked : Type 0
TableIsPacked =
    (options : Options) (rows : List (Place × Row)) (t : Table) (side : Side)
    → AreApart rows → IsInOrder rows → IsTable (row_in rows) (row_of t)
    → side.spots ≡ spots_from options 0 0 0 (rows_in rows)
    → side.pages ≡ pages_packed options (rows_in rows)
    → HaveOtherKeys (rows_in rows) × (is_packed options t side ≡ true)

abbrev pub CopiesAreTable : Type 0
CopiesAreTable =
    (row_at : Place → Option Row) (is_quiet : ℕ → Bool) (progress : Progress) (feed : List Item)
    (rows : List (Place × Row))
    → Lawful (since_begin feed) → Fed row_at is_quiet progress feed
    → progress.copied ≡ progress.pages → progress.changes ≡ 0
    → IsPermutation (copied_rows (since_begin feed)) rows
    → AreApart rows × ((place : Place) → row_in rows place ≡ row_at place)
