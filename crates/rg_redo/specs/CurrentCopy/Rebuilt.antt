-- The pages of a copy, rebuilt from the log.
--
-- 1. The records after the last Switch are redone on the pages with which the redo begins: those
--    that were read.
-- 2. What is rebuilt is sound: pages are trimmed and within their bytes, and each row is within its
--    area. The summaries of the space agree with it.
-- 3. No record that is redone names a page that is not there.
use Rattle.std.specs.Prelude.{◌≡◌, ℕ, List, length}
use Rattle.std.specs.List.{AllByRecursion}
use Rattle.rg_home.specs.Able.{AllHold}
use Rattle.rg_home.specs.Pages.{Sound, slot_of}
use Rattle.rg_home.specs.Slot.{Slot}
use Rattle.rg_page.specs.Content.{Content, slots_of}
use Rattle.rg_page.specs.declared.list.ListFrames.{ListFrames}
use Rattle.rg_record.specs.Applied.{parts_of}
use Rattle.rg_record.specs.declared.record.Record.{Record}
use Rattle.rg_redo.specs.Redo.{AllRedoFit, FailsAt, redone_all, since_switch}
use Rattle.rg_space.specs.Carries.{AllThere}
use Rattle.rg_space.specs.Space.{Agree, InStep, capacity_in, frames_of, summaries_of}
use Rattle.rg_space.specs.declared.space.Space.{Space}
use Rattle.rg_space.specs.Memory.{list_seen}
use Rattle.rg_redo.specs.declared.current_copy.rebuilt.Rebuilt.{Rebuilt}
use Rattle.rg_redo.specs.declared.current_copy.rebuilt.Rebuilt.TheVariants.{Pages, Unfit}

-- the pages that the records of a log make of these
abbrev pub rebuilt_pages : (base : List Content) → List Record → List Content
rebuilt_pages base rs = redone_all (since_switch rs) base

-- pages are trimmed and within their bytes, and each row is within its area
pub record AreSoundPages (pages : List (List Slot)) : Type 0 where
  pub sound : Sound pages
  pub holds : AllHold (slot_of pages)

-- the space of the pages that the records of a log make of these: each record fits
pub record IsRebuilt (base : List Content) (rs : List Record) (space : Space ListFrames) : Type 0
  where
    pub step : InStep (list_seen (frames_of space)) (summaries_of space) (capacity_in space)
    pub agree : Agree (list_seen (frames_of space)) (summaries_of space)
    pub pages : (list_seen (frames_of space)).pages ≡ rebuilt_pages base rs
    pub count_is : length (list_seen (frames_of space)).pages ≡ length base
    pub fit : AllRedoFit (since_switch rs) base
    pub sound : AreSoundPages (slots_of (list_seen (frames_of space)).pages)

-- each record after the last Switch names no page but 1 to count
abbrev pub CanRebuild : (count : ℕ) → List Record → Type 0
CanRebuild count rs =
    AllByRecursion (λ (entry : Record). AllThere count (parts_of entry.kind)) (since_switch rs)

-- what the redo of a log came to: the pages, or the first record that does not fit
abbrev pub RebuiltIs : (base : List Content) → (capacity : ℕ) → List Record → Rebuilt → Type 0
RebuiltIs base capacity rs (Pages space) =
    IsRebuilt base rs space × (capacity_in space ≡ capacity)
RebuiltIs base capacity rs (Unfit position) = FailsAt position.0 (since_switch rs) base

-- the pages are of this copy
abbrev pub IsOfCopy : (copy : ℕ) → Rebuilt → Type 0
IsOfCopy copy (Pages space) = (frames_of space).copy ≡ copy
IsOfCopy copy (Unfit position) = Unit {0}
