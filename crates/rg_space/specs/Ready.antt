-- Pages that are at hand for a record: it is applied without a device or memory.
use Rattle.std.specs.Prelude.{◌≡◌, ◌≤◌, ◌+◌, ℕ, List, [], ◌∷◌, Option, length}
use Rattle.rg_base.specs.declared.part.Part.{Part}
use Rattle.rg_base.specs.declared.row.Row.{Row}
use Rattle.rg_home.specs.Pages.{applied, row_or_empty, FitsAll, TakesAll}
use Rattle.rg_home.specs.Slot.{Slot}
use Rattle.rg_home.specs.declared.plan.Plan.{Plan}
use Rattle.rg_outside.specs.Faults.{Rose}
use Rattle.rg_page.specs.Content.{Content, slots_of}
use Rattle.rg_page.specs.Seen.{Seen}
use Rattle.rg_record.specs.Applied.{parts_of, after_of}
use Rattle.rg_record.specs.declared.record.Record.{Record}
use Rattle.rg_space.specs.Applied.{AllNext, wrote_all}
use Rattle.rg_space.specs.declared.fault.SpaceFault.{SpaceFault}
use Rattle.rg_space.specs.declared.fault.SpaceFault.TheVariants.{Full, Device, NoMemory}
use Rattle.rg_space.specs.Took.{IsHeldAt}

-- the page is held, if it is there; if it is the next one within the capacity, one is reserved
pub record IsReady (s : Seen) (capacity n : ℕ) : Type 0 where
  pub held : IsHeldAt s n
  pub reserved : n ≡ length s.pages + 1 → n ≤ capacity → 1 ≤ s.reserved

-- the page of each part is at hand
abbrev pub AllReady : Seen → (capacity : ℕ) → List Part → Type 0
AllReady s capacity [] = Unit {0}
AllReady s capacity (x ∷ parts) = IsReady s capacity x.page × AllReady s capacity parts

-- the page of each part of a plan is at hand
pub record IsAtHand (s : Seen) (capacity : ℕ) (plan : Plan) : Type 0 where
  pub purge : AllReady s capacity plan.purge
  pub parts : AllReady s capacity plan.parts

-- The parts of a record of this owner, with this row, can be applied: their pages are at hand, each
-- is there or is the next one, and each part fits in its turn.
pub record CanApply (s : Seen) (capacity owner : ℕ) (after : Option Row) (parts : List Part)
    : Type 0 where
  pub ready : AllReady s capacity parts
  pub next : AllNext (length s.pages) parts
  pub fits : FitsAll owner (row_or_empty after) capacity (slots_of s.pages) parts
  pub takes : TakesAll after parts

-- a record can be applied
abbrev pub CanApplyRecord : Seen → (capacity : ℕ) → Record → Type 0
CanApplyRecord s capacity entry =
    CanApply s capacity entry.tran.0 (after_of entry.kind) (parts_of entry.kind)

-- the pages after a record
abbrev pub record_applied : List (List Slot) → Record → List (List Slot)
record_applied pages entry =
    applied entry.tran.0 (row_or_empty (after_of entry.kind)) pages (parts_of entry.kind)

-- the same with the positions of pages, in this copy
abbrev pub record_wrote : (copy : ℕ) → List Content → Record → List Content
record_wrote copy pages entry =
    wrote_all copy entry.tran.0 (after_of entry.kind) entry.position.0 pages (parts_of entry.kind)

-- why there is no plan: a row of b bytes finds no room, or a page could not be read, which has its
-- cause
abbrev pub HasCause : SpaceFault → (b : ℕ) → Type 0 → Seen → Seen → Type 0
HasCause (Full need) b is_full x y = (need ≡ b) × is_full
HasCause Device b is_full x y = Rose x.faults y.faults
HasCause NoMemory b is_full x y = Unit {0}
