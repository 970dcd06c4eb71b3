-- What reading a page gives, and what its refusals say.
use Rattle.std.specs.Prelude.{◌≡◌, ℕ, List, ◌++◌, length}
use Rattle.std.specs.List.{AllByRecursion}
use Rattle.rg_home.specs.Pages.{TakesRow}
use Rattle.rg_home.specs.Slot.{Slot}
use Rattle.rg_home.specs.Slots.{Fits, placed, trim}
use Rattle.rg_page.specs.Bytes.Content.{Content, FitsPage, FitsSlot}
use Rattle.rg_page.specs.Bytes.PageBytes.{filled_bytes, page_bytes, slots_bytes}
use Rattle.rg_page.specs.Bytes.Reading.{slot_of}
use Rattle.rg_page.specs.declared.bytes.entry.Entry.{Entry}
use Rattle.rg_page.specs.declared.bytes.fault.PageFault.{PageFault}
use Rattle.rg_page.specs.declared.bytes.fault.PageFault.TheVariants.{NotAPage, NoMemory}

-- a refusal other than out of memory says this
abbrev pub Unless : Type 0 → PageFault → Type 0
Unless why NotAPage = why
Unless why NoMemory = Unit {0}

-- the page with this slot set
abbrev pub IsPut : ℕ → Entry → Content → Content → Type 0
IsPut i x old new = new ≡ record old { slots = placed old.slots i (slot_of x) }

-- the slot lacks its row, or does not fit
abbrev pub IsUnput : ℕ → Entry → Content → PageFault → Type 0
IsUnput i x old = Unless (TakesRow x.row x.op → Fits (placed old.slots i (slot_of x)) → ⊥)

-- so many slots that may stand on a page, which these bytes begin with
pub record Begins (count : ℕ) (bytes : List ℕ) (slots : List Slot) : Type 0 where
  pub fits : AllByRecursion FitsSlot slots
  pub within : Fits slots
  pub count_is : length slots ≡ count
  pub rest : List ℕ
  pub is : bytes ≡ slots_bytes slots ++ rest

-- the page has the slots that the bytes begin with, and is else as it was
pub record FillsSlots (count : ℕ) (bytes : List ℕ) (old new : Content) : Type 0 where
  pub slots : (slots : List Slot) → Begins count bytes slots → new.slots ≡ trim slots
  pub same : new ≡ record old { slots = new.slots }

abbrev pub NoSlotsFill : ℕ → List ℕ → PageFault → Type 0
NoSlotsFill count bytes = Unless ((slots : List Slot) → Begins count bytes slots → ⊥)

-- a page of this copy and number that has these bytes, and is not blank
pub record IsFilled (bytes : List ℕ) (old x : Content) : Type 0 where
  pub fits : FitsPage x
  pub copy : x.copy ≡ old.copy
  pub number : x.number ≡ old.number
  pub is : bytes ≡ filled_bytes x

-- the page is the one that has these bytes
pub record FillsPage (bytes : List ℕ) (old new : Content) : Type 0 where
  pub is : (x : Content) → IsFilled bytes old x → new ≡ x
  pub copy : new.copy ≡ old.copy
  pub number : new.number ≡ old.number

abbrev pub NoContentFills : List ℕ → Content → PageFault → Type 0
NoContentFills bytes old = Unless ((x : Content) → IsFilled bytes old x → ⊥)

-- no page of this copy and number has these bytes
abbrev pub NoPageHas : (copy number : ℕ) → List ℕ → Type 0
NoPageHas copy number bytes =
    (x : Content) → FitsPage x → x.copy ≡ copy → x.number ≡ number → page_bytes x ≡ bytes → ⊥

abbrev pub IsNone : (copy number : ℕ) → List ℕ → PageFault → Type 0
IsNone copy number bytes = Unless (NoPageHas copy number bytes)
