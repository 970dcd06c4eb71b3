-- Pages as a list, and parts applied to them.
--
-- 1. Pages are numbered from 1. Past the last one all are empty, so a look-up is total, and page 0
--    is empty and is never written.
-- 2. A part sets one slot of one page. The parts of a record are applied in order, by one function
--    for every kind of record: writes, purges, undo and redo.
-- 3. Each part fits: its page stays within its bytes, and is there or may be added. A part that
--    brings a row has an area that holds it. So the pages stay sound.
use Rattle.std.specs.Prelude.{◌≡◌, ℕ, zero, suc, List, [], ◌∷◌, Option, Some, None, slice_index_or}
use Rattle.std.specs.Prelude.{◌≤◌, IsSomeAnd}
use Rattle.rg_base.specs.RowBytes.{row_size}
use Rattle.rg_base.specs.declared.place.Place.{Place}
use Rattle.rg_base.specs.declared.row.Row.{Row as TableRow}
use Rattle.rg_base.specs.declared.part.Part.{Part}
use Rattle.rg_base.specs.declared.part.SlotOp.{SlotOp}
use Rattle.rg_base.specs.declared.part.SlotOp.TheVariants as Op
use Rattle.rg_home.specs.Slot.{Slot}
use Rattle.rg_home.specs.Slot.{Free, Row, Pointer, Over, DeadRow, DeadPointer, DeadOver}
use Rattle.rg_home.specs.Slots.{slot_at, placed, Fits, IsTrimmed}

-- the page of this number
abbrev pub page_at : List (List Slot) → ℕ → List Slot
page_at pages n = slice_index_or ([] ∷ pages) n []

-- the slot at this place
abbrev pub slot_of : List (List Slot) → Place → Slot
slot_of pages p = slot_at (page_at pages p.page) p.slot

-- a list with the element of this number changed, past elements d where there are fewer
abbrev pub altered : {A : Type 0} → A → (A → A) → List A → ℕ → List A
altered d f [] zero = f d ∷ []
altered d f [] (suc n) = d ∷ altered d f [] n
altered d f (x ∷ xs) zero = f x ∷ xs
altered d f (x ∷ xs) (suc n) = x ∷ altered d f xs n

-- the pages with slot i of page n set
abbrev pub wrote_page : List (List Slot) → ℕ → ℕ → Slot → List (List Slot)
wrote_page pages zero i s = pages
wrote_page pages (suc n) i s = altered [] (λ slots. placed slots i s) pages n

-- the pages with the slot at this place set
abbrev pub wrote : List (List Slot) → Place → Slot → List (List Slot)
wrote pages p s = wrote_page pages p.page p.slot s

-- the place that a part sets
abbrev pub place_of : Part → Place
place_of x = record { page = x.page; slot = x.slot }

-- a part that sets this place
abbrev pub part_at : Place → SlotOp → Part
part_at p op = record { page = p.page; slot = p.slot; op = op }

-- the row that a record brings, or an empty one where it brings none, which no part then takes
abbrev pub row_or_empty : Option TableRow → TableRow
row_or_empty None = record { key = 0; clus = 0; cat = 0; text = [] }
row_or_empty (Some row) = row

-- a part that brings a row is of a record that has one, and its area holds it
abbrev pub TakesRow : Option TableRow → SlotOp → Type 0
TakesRow after Op.Free = Unit {0}
TakesRow after (Op.Row capacity) = IsSomeAnd after (λ row. row_size row ≤ capacity)
TakesRow after (Op.Pointer capacity other) = Unit {0}
TakesRow after (Op.Over capacity home) = IsSomeAnd after (λ row. row_size row ≤ capacity)
TakesRow after (Op.DeadRow capacity) = Unit {0}
TakesRow after (Op.DeadPointer capacity other) = Unit {0}
TakesRow after (Op.DeadOver capacity home) = Unit {0}

-- each of these parts is so
abbrev pub TakesAll : Option TableRow → List Part → Type 0
TakesAll after [] = Unit {0}
TakesAll after (x ∷ parts) = TakesRow after x.op × TakesAll after parts

-- the slot that a part makes: a dead one is of the record's owner
abbrev pub made : ℕ → TableRow → SlotOp → Slot
made owner after Op.Free = Free
made owner after (Op.Row capacity) = Row capacity after
made owner after (Op.Pointer capacity other) = Pointer capacity other
made owner after (Op.Over capacity home) = Over capacity after home
made owner after (Op.DeadRow capacity) = DeadRow capacity owner
made owner after (Op.DeadPointer capacity other) = DeadPointer capacity other owner
made owner after (Op.DeadOver capacity home) = DeadOver capacity home owner

-- the pages after these parts, in order
abbrev pub applied : ℕ → TableRow → List (List Slot) → List Part → List (List Slot)
applied owner after pages [] = pages
applied owner after pages (x ∷ parts) =
    applied owner after (wrote pages (place_of x) (made owner after x.op)) parts

-- each part in its turn fits its page, which is there or is one of those that may be added
abbrev pub FitsAll : ℕ → TableRow → ℕ → List (List Slot) → List Part → Type 0
FitsAll owner after limit pages [] = Unit {0}
FitsAll owner after limit pages (x ∷ parts) =
    (1 ≤ x.page)
    × (x.page ≤ limit)
    × Fits (placed (page_at pages x.page) x.slot (made owner after x.op))
    × FitsAll owner after limit (wrote pages (place_of x) (made owner after x.op)) parts

-- A part fits the page of this number: it is of this page, its area holds the row, and the page
-- stays within its bytes. That bounds its slots too, to 225, since each takes 18 bytes.
pub record PartFits
    (number : ℕ) (slots : List Slot) (owner : ℕ) (after : Option TableRow) (x : Part)
    : Type 0 where
  pub here : x.page ≡ number
  pub row : TakesRow after x.op
  pub fits : Fits (placed slots x.slot (made owner (row_or_empty after) x.op))

-- all pages are trimmed, and within their bytes
pub record Sound (pages : List (List Slot)) : Type 0 where
  pub trimmed : (n : ℕ) → IsTrimmed (page_at pages n)
  pub fits : (n : ℕ) → Fits (page_at pages n)
