-- What calls that read do to frames.
use Rattle.std.specs.Prelude.{◌≡◌, ◌≤◌, ◌+◌, ℕ, true, length}
use Rattle.rg_base.specs.declared.place.Place.{Place}
use Rattle.rg_home.specs.Pages.{slot_of}
use Rattle.rg_home.specs.Slot.{Slot}
use Rattle.rg_outside.specs.Faults.{Rose}
use Rattle.rg_page.specs.Content.{slots_of}
use Rattle.rg_page.specs.Seen.{Seen, Reads, StayHeld}
use Rattle.rg_space.specs.declared.fault.SpaceFault.{SpaceFault}
use Rattle.rg_space.specs.declared.fault.SpaceFault.TheVariants.{Full, Device, NoMemory}

-- Pages were read, or reserved, at the cost of so many frames at most. What was held stays. Frames
-- that were idle are so still, but for one for each page that was reserved.
pub record Took (cost : ℕ) (a b : Seen) : Type 0 where
  pub reads : Reads a b
  pub stay : StayHeld a b
  pub spare : a.spare ≤ b.spare + cost
  pub idle : a.idle + a.reserved ≤ b.idle + b.reserved

-- the slot at a place
abbrev pub slot_in : Seen → Place → Slot
slot_in s p = slot_of (slots_of s.pages) p

-- a Device has its cause
abbrev pub HasRisen : SpaceFault → Seen → Seen → Type 0
HasRisen (Full need) a b = ⊥
HasRisen Device a b = Rose a.faults b.faults
HasRisen NoMemory a b = Unit {0}

-- the one fault is a Device, and has its cause
abbrev pub IsRisen : SpaceFault → Seen → Seen → Type 0
IsRisen (Full need) a b = ⊥
IsRisen Device a b = Rose a.faults b.faults
IsRisen NoMemory a b = ⊥

-- the page of this number is held, if there is one
abbrev pub IsHeldAt : Seen → ℕ → Type 0
IsHeldAt s n = 1 ≤ n → n ≤ length s.pages → s.held n ≡ true
