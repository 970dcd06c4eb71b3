-- What a page is, as contracts see it, and which pages have a spelling.
use Rattle.std.specs.Prelude.{◌≤◌, ◌<◌, ◌^◌, ℕ, List, []}
use Rattle.std.specs.List.{AllByRecursion}
use Rattle.rg_base.specs.RowBytes.{row_size}
use Rattle.rg_home.specs.Slot.{Slot, Free, Row, Pointer, Over, DeadRow, DeadPointer, DeadOver}
use Rattle.rg_home.specs.Slots.{Fits, IsTrimmed}
use Rattle.rg_base.specs.Values.{FitsRow}
use Rattle.rg_record.specs.Fits.{FitsPlace}

-- The copy that it is of, its number from 1, the position of the last record that changed it, and
-- its slots.
pub record Content : Type 0 where
  pub copy : ℕ
  pub number : ℕ
  pub position : ℕ
  pub slots : List Slot

-- the page without slots, which no record has changed
abbrev pub empty : ℕ → ℕ → Content
empty copy number = record { copy = copy; number = number; position = 0; slots = [] }

-- numbers that fit their fields, and a row that its area holds
abbrev pub FitsSlot : Slot → Type 0
FitsSlot Free = Unit {0}
FitsSlot (Row capacity row) = (capacity < 2 ^ 16) × FitsRow row × (row_size row ≤ capacity)
FitsSlot (Pointer capacity other) = (capacity < 2 ^ 16) × FitsPlace other
FitsSlot (Over capacity row home) =
    (capacity < 2 ^ 16) × FitsRow row × (row_size row ≤ capacity) × FitsPlace home
FitsSlot (DeadRow capacity owner) = (capacity < 2 ^ 16) × (owner < 2 ^ 32)
FitsSlot (DeadPointer capacity other owner) =
    (capacity < 2 ^ 16) × FitsPlace other × (owner < 2 ^ 32)
FitsSlot (DeadOver capacity home owner) =
    (capacity < 2 ^ 16) × FitsPlace home × (owner < 2 ^ 32)

-- a page that has a spelling
pub record FitsPage (x : Content) : Type 0 where
  pub copy : x.copy < 256
  pub number : x.number < 2 ^ 32
  pub position : x.position < 2 ^ 64
  pub slots : AllByRecursion FitsSlot x.slots
  pub within : Fits x.slots
  pub trimmed : IsTrimmed x.slots
