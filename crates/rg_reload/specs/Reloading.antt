-- How far a packer has come.
--
-- 1. Of its rows, which are in order, the first so many are placed, on so many filled pages.
-- 2. Once every row is placed it makes the space of the new copy, and is whole.
-- 3. A packer that was out of memory is spent: it makes no more pages, and answers the same again.
use Rattle.std.specs.Prelude.{◌≡◌, ℕ, ◌+◌, ◌≤◌, ◌<◌, Bool, true, false, List, [], ◌++◌, length}
use Rattle.std.specs.Prelude.{drop, take, Option, Some, None, vec_capacity}
use Rattle.std.specs.declared.vec.Vec.{Vec}
use Rattle.std.specs.declared.alloc.Global.{Global}
use Rattle.rg_base.specs.declared.options.Options.{Options}
use Rattle.rg_base.specs.declared.place.Place.{Place}
use Rattle.rg_base.specs.declared.row.Row.{Row}
use Rattle.rg_feed.specs.Fold.Lawful.{AreApart}
use Rattle.rg_home.specs.Pages.{slot_of}
use Rattle.rg_home.specs.Slot.{Slot}
use Rattle.rg_model.specs.Packed.{page_at, page_count}
use Rattle.rg_page.specs.Content.{slots_of}
use Rattle.rg_page.specs.declared.list.ListFrames.{ListFrames}
use Rattle.rg_reload.specs.Moved.{Moved, moved_from, moved_on, packed_rows, page_taken}
use Rattle.rg_reload.specs.Moved.{pages_filled, pairs_of}
use Rattle.rg_space.specs.Memory.{list_seen}
use Rattle.rg_reload.specs.Pages.{HasRows, slots_on}
use Rattle.rg_reload.specs.declared.fault.ReloadFault.{ReloadFault}
use Rattle.rg_reload.specs.declared.fault.ReloadFault.TheVariants.{NoSpace, NoMemory}
use Rattle.rg_reload.specs.declared.packer.Filled.{Filled}
use Rattle.rg_reload.specs.declared.packer.NewCopy.{NewCopy}
use Rattle.rg_reload.specs.declared.packer.NewCopy.TheVariants.{Filling, Whole, Spent}
use Rattle.rg_space.specs.Space.{Agree, InStep, capacity_in, frames_of, summaries_of}
use Rattle.rg_space.specs.declared.space.Space.{Space}

-- the copy, its capacity in pages, the options that it is packed by, its rows with their old
-- places, in order, how many of them are placed, and on how many filled pages
pub record Reloading : Type 0 where
  pub copy : ℕ
  pub capacity : ℕ
  pub options : Options
  pub rows : List (Place × Row)
  pub count : ℕ
  pub filled : ℕ
  pub whole : Bool
  pub spent : Bool

-- the rows that are placed, each with its old home and its new one
abbrev pub placed_rows : Reloading → List Moved
placed_rows p = take p.count (packed_rows p.options p.rows)

-- the rows that are not
abbrev pub rows_left : Reloading → List (Place × Row)
rows_left p = drop p.count p.rows

-- the page to be filled, or the empty one due after it, is above the capacity
pub record LacksPage (p : Reloading) : Type 0 where
  pub rest : p.count < length p.rows
  pub above : p.capacity < page_count p.options.freepage (p.filled + 1)

-- One page was filled: the next one of those that are filled, with the rows that it takes, each in
-- the next slot. These are all rows that it has once every row is placed.
pub record Fills (p : Reloading) (filled : Filled) (q : Reloading) : Type 0 where
  pub rest : p.count < length p.rows
  pub within : page_count p.options.freepage (p.filled + 1) ≤ p.capacity
  pub page : filled.page ≡ page_at p.options.freepage (p.filled + 1)
  pub rows : filled.rows ≡ page_taken p.options (rows_left p)
  pub reloading : q ≡ record p { count = p.count + filled.rows; filled = p.filled + 1 }
  pub placed : placed_rows q
      ≡ placed_rows p ++ moved_on filled.page 0 (take filled.rows (rows_left p))
  pub on_page : length (slots_on filled.page (packed_rows p.options p.rows)) ≡ filled.rows

-- what a call that is not refused leaves
abbrev pub GoesOn : Reloading → Option Filled → Reloading → Type 0
GoesOn p None q = (p.count ≡ length p.rows) × (q ≡ record p { whole = true })
GoesOn p (Some filled) q = Fills p filled q

-- why a call is refused, and what it leaves
abbrev pub Stops : Reloading → ReloadFault → Reloading → Type 0
Stops p (NoSpace pages) q = (pages ≡ p.capacity) × LacksPage p × (q ≡ p)
Stops p NoMemory q = (LacksPage p → ⊥) × (q ≡ record p { spent = true })

-- the slot of each place of a space in memory
abbrev pub space_slots : Space ListFrames → Place → Slot
space_slots space place = slot_of (slots_of (frames_of space).pages.items) place

-- the space of the new copy, which has these rows
pub record IsCopy (copy capacity count : ℕ) (rows : List Moved) (space : Space ListFrames)
    : Type 0 where
  pub step : InStep (list_seen (frames_of space)) (summaries_of space) (capacity_in space)
  pub agree : Agree (list_seen (frames_of space)) (summaries_of space)
  pub capacity_is : capacity_in space ≡ capacity
  pub copy_is : (frames_of space).copy ≡ copy
  pub pages : length (frames_of space).pages.items ≡ count
  pub rows_are : HasRows (frames_of space).pages.items rows

-- the pages so far, of which empty ones at the end may be missing
pub record IsStarted (copy count : ℕ) (rows : List Moved) (frames : ListFrames) : Type 0 where
  pub copy_is : frames.copy ≡ copy
  pub pages : length frames.pages.items ≤ count
  pub reserved : frames.reserved.items ≡ []
  pub rows_are : HasRows frames.pages.items rows

abbrev pub is_whole : NewCopy → Bool
is_whole (Filling frames) = false
is_whole (Whole space) = true
is_whole Spent = false

abbrev pub is_spent : NewCopy → Bool
is_spent (Filling frames) = false
is_spent (Whole space) = false
is_spent Spent = true

-- what is seen of a packer that has made this
abbrev pub reloading_at : (copy capacity : ℕ) → Options → List (Place × Row) → (count filled : ℕ)
    → NewCopy → Reloading
reloading_at copy capacity options rows count filled made = record {
  copy = copy;
  capacity = capacity;
  options = options;
  rows = rows;
  count = count;
  filled = filled;
  whole = is_whole made;
  spent = is_spent made;
}

-- what a packer has made is what it has come to
abbrev pub HasMade : Reloading → NewCopy → Type 0
HasMade p (Filling frames) =
    IsStarted p.copy (page_count p.options.freepage p.filled) (placed_rows p) frames
HasMade p (Whole space) =
    IsCopy p.copy p.capacity (page_count p.options.freepage p.filled) (placed_rows p) space
    × (p.count ≡ length p.rows)
HasMade p Spent = Unit {0}

-- What a packer keeps. The rest of the rows is packed from the next filled page on. There is room
-- for the pairs of all rows. No two rows have the same old place.
pub record IsReloading (p : Reloading) (pairs : Vec (Place × Place) Global) (made : NewCopy)
    : Type 0 where
  pub few : p.count ≤ length p.rows
  pub left : drop p.count (packed_rows p.options p.rows)
      ≡ moved_from p.options p.filled 0 0 (rows_left p)
  pub pairs_are : pairs.items ≡ pairs_of (placed_rows p)
  pub room : length p.rows ≤ vec_capacity pairs
  pub within : page_count p.options.freepage p.filled ≤ p.capacity
  pub apart : AreApart p.rows
  pub filled_are : p.filled ≡ pages_filled (placed_rows p)
  pub made_is : HasMade p made
