-- The pages of a new copy.
--
-- 1. A page has a Row slot for each row that lies on it, in their order, and no other slot. Each
--    area is as long as its row.
-- 2. No record has changed a page: its position is 0.
use Rattle.std.specs.Prelude.{◌≡◌, ℕ, ◌==◌, List, [], ◌∷◌, if◌then◌else◌, Option, Some, None}
use Rattle.rg_base.specs.RowBytes.{row_size}
use Rattle.rg_base.specs.declared.place.Place.{Place}
use Rattle.rg_base.specs.declared.row.Row.{Row as TableRow}
use Rattle.rg_home.specs.Pages.{page_at}
use Rattle.rg_home.specs.Slot.{Slot}
use Rattle.rg_home.specs.Slot.{Free, Row}
use Rattle.rg_home.specs.Slots.{Fits}
use Rattle.rg_page.specs.Content.{Content, content_at, slots_of}
use Rattle.rg_reload.specs.Moved.{Moved}

-- a row at home
abbrev pub row_slot : TableRow → Slot
row_slot row = Row (row_size row) row

abbrev pub row_slots : List (Place × TableRow) → List Slot
row_slots [] = []
row_slots (homed ∷ rows) = row_slot homed.1 ∷ row_slots rows

-- the slot of a place that has this row, or none
abbrev pub slot_with : Option TableRow → Slot
slot_with None = Free
slot_with (Some row) = row_slot row

-- the slots of the rows that were moved to page n
abbrev pub slots_on : (n : ℕ) → List Moved → List Slot
slots_on n [] = []
slots_on n (moved ∷ rows) =
    if moved.target.page == n then row_slot moved.row ∷ slots_on n rows else slots_on n rows

-- the page of these slots that no record has changed
abbrev pub page_of : (copy number : ℕ) → List Slot → Content
page_of copy number slots =
    record { copy = copy; number = number; position = 0; slots = slots }

-- pages have these rows, each where it was moved to, and are within their bytes
pub record HasRows (pages : List Content) (rows : List Moved) : Type 0 where
  pub slots : (n : ℕ) → page_at (slots_of pages) n ≡ slots_on n rows
  pub fits : (n : ℕ) → Fits (page_at (slots_of pages) n)
  pub positions : (n : ℕ) → (content_at pages n).position ≡ 0
