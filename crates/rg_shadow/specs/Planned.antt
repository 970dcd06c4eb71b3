-- Plans of a space that is in memory.
--
-- 1. No unit is live in a new copy: every dead area may be purged, and its owner is 0. So nobody
--    holds one, and it claims no more than its header.
use Rattle.std.specs.Prelude.{◌≡◌, ◌≤◌, ◌*◌, ℕ, List, [], Option, None, length}
use Rattle.rg_base.specs.RowBytes.{row_size}
use Rattle.rg_base.specs.declared.place.Place.{Place}
use Rattle.rg_base.specs.declared.row.Row.{Row}
use Rattle.rg_laws_pages.specs.ByteClaims.Claim.{claimed_all, nobody}
use Rattle.rg_home.specs.Pages.{slot_of}
use Rattle.rg_home.specs.Plan.{new_area, planned_put, planned_change, planned_drop}
use Rattle.rg_home.specs.Slot.{Slot}
use Rattle.rg_home.specs.declared.plan.Plan.{Plan}
use Rattle.rg_page.specs.Content.{Content, content_at, slots_of}
use Rattle.rg_page.specs.Listed.{stamped}
use Rattle.rg_page.specs.Seen.{Seen}
use Rattle.rg_page.specs.declared.list.ListFrames.{ListFrames}
use Rattle.rg_space.specs.Memory.{list_seen}
use Rattle.rg_shadow.specs.declared.fault.ShadowFault.{ShadowFault}
use Rattle.rg_shadow.specs.declared.fault.ShadowFault.TheVariants.{NoSpace, NoMemory}
use Rattle.rg_space.specs.Space.{Agree, InStep, capacity_in, frames_of, summaries_of}
use Rattle.rg_space.specs.declared.space.Space.{Space}

abbrev pub seen_in : Space ListFrames → Seen
seen_in space = list_seen (frames_of space)

abbrev pub pages_in : Space ListFrames → List Content
pages_in space = (frames_of space).pages.items

-- no record has changed these pages
abbrev pub AreUnlogged : List Content → Type 0
AreUnlogged pages = (n : ℕ) → (content_at pages n).position ≡ 0

-- each page has the number of its place
abbrev pub AreNumbered : List Content → Type 0
AreNumbered pages =
    (n : ℕ) → 1 ≤ n → n ≤ length pages → (content_at pages n).number ≡ n

-- each page is of this copy
abbrev pub AreOfCopy : (copy : ℕ) → List Content → Type 0
AreOfCopy copy pages =
    (n : ℕ) → 1 ≤ n → n ≤ length pages → (content_at pages n).copy ≡ copy

-- the slots of its pages
abbrev pub slots_in : Space ListFrames → List (List Slot)
slots_in space = slots_of (pages_in space)

-- summaries and pages are in step, and agree
pub record HasPages (space : Space ListFrames) : Type 0 where
  pub step : InStep (seen_in space) (summaries_of space) (capacity_in space)
  pub agree : Agree (seen_in space) (summaries_of space)

-- the pages are the same
pub record SameSpace (old new : Space ListFrames) : Type 0 where
  pub copy : (frames_of new).copy ≡ (frames_of old).copy
  pub capacity : capacity_in new ≡ capacity_in old
  pub pages : pages_in new ≡ pages_in old

-- one page has another position, and all else is the same
pub record Stamps (number at : ℕ) (old new : Space ListFrames) : Type 0 where
  pub copy : (frames_of new).copy ≡ (frames_of old).copy
  pub capacity : capacity_in new ≡ capacity_in old
  pub pages : pages_in new ≡ stamped (pages_in old) number at

-- the plan of a new row, if there is room
abbrev pub put_plan : Row → (capacity : ℕ) → List (List Slot) → Option Plan
put_plan row capacity pages =
    planned_put [] (row_size row) pages (new_area [] (row_size row) capacity pages)

-- the plan of a row in the place of the one whose home this is, if there is room
abbrev pub change_plan : Row → (capacity : ℕ) → List (List Slot) → Place → Option Plan
change_plan row capacity pages home = planned_change [] (row_size row) capacity pages home

-- the plan of the drop of the row whose home this is
abbrev pub drop_plan : List (List Slot) → Place → Plan
drop_plan pages home = planned_drop pages home (slot_of pages home)

-- there is no plan, or no memory
abbrev pub IsRefusal : Option Plan → ShadowFault → Type 0
IsRefusal plan NoSpace = plan ≡ None
IsRefusal plan NoMemory = Unit {0}

-- there is no plan, and these pages claim 3,221 bytes for each that there may be; or no memory
abbrev pub IsFull : Option Plan → (capacity : ℕ) → List (List Slot) → ShadowFault → Type 0
IsFull plan capacity pages NoSpace =
    (plan ≡ None) × (3221 * capacity ≤ claimed_all nobody pages)
IsFull plan capacity pages NoMemory = Unit {0}
