-- What holds of plans, and of records that carry them out, for every list of pages.
--
-- 1. The parts of a plan are on pages that are there or on the next one. Those of a drop and of an
--    undo, and those that purge, are on pages that are there.
-- 2. A plan that is carried out changes the row of its home alone, to the new row or to none. A
--    purge changes no row. A put and a change may find no room, a drop and an undo always have it.
-- 3. Where the pages of a plan are at hand, its purge can be applied, and then its parts.
use Rattle.std.specs.Prelude.{◌≡◌, ◌≤◌, ℕ, true, List, Option, Some, None, IfSome, length}
use Rattle.rg_base.specs.RowBytes.{row_size}
use Rattle.rg_base.specs.declared.part.Part.{Part}
use Rattle.rg_base.specs.declared.place.Place.{Place}
use Rattle.rg_base.specs.declared.row.Row.{Row as TableRow}
use Rattle.rg_home.specs.Able.{Undoable, Proper}
use Rattle.rg_home.specs.Laws.{WritesHome}
use Rattle.rg_home.specs.Pages.{slot_of}
use Rattle.rg_home.specs.Plan.{is_home, new_area, planned_put, planned_change, planned_drop}
use Rattle.rg_home.specs.Rows.{Tied}
use Rattle.rg_home.specs.Slot.{Slot}
use Rattle.rg_home.specs.Undo.{planned_undo}
use Rattle.rg_home.specs.Written.{Written}
use Rattle.rg_home.specs.declared.plan.Plan.{Plan}
use Rattle.rg_page.specs.Content.{slots_of}
use Rattle.rg_page.specs.Seen.{Seen}
use Rattle.rg_space.specs.Applied.{AllHeld}
use Rattle.rg_space.specs.Carries.{AllThere, PlanNext, Carries, cleared}
use Rattle.rg_space.specs.Ready.{AllReady, CanApply}

-- where the parts of plans are
pub record PlansNext : Type 0 where
  pub put :
      (live : List ℕ) (b capacity : ℕ) (pages : List (List Slot))
      → IfSome (planned_put live b pages (new_area live b capacity pages)) (PlanNext (length pages))
  pub change :
      (live : List ℕ) (b capacity : ℕ) (pages : List (List Slot)) (home : Place)
      → Tied (slot_of pages) → is_home (slot_of pages home) ≡ true
      → IfSome (planned_change live b capacity pages home) (PlanNext (length pages))
  pub drop :
      (pages : List (List Slot)) (home : Place)
      → Tied (slot_of pages) → is_home (slot_of pages home) ≡ true
      → PlanNext (length pages) (planned_drop pages home (slot_of pages home))
      × AllThere (length pages) (planned_drop pages home (slot_of pages home)).parts
  pub undo :
      (by : Option ℕ) (c : Written) (pages : List (List Slot))
      → Tied (slot_of pages) → Undoable by (slot_of pages) c
      → PlanNext (length pages) (planned_undo pages c)
      × AllThere (length pages) (planned_undo pages c).parts

-- what plans do, once they are carried out; that of an undo, where its write is shown
pub record PlansCarry : Type 0 where
  pub put :
      (owner purger : ℕ) (row : TableRow) (live : List ℕ) (capacity : ℕ)
      (pages : List (List Slot))
      → row_size row ≤ 4046 → length pages ≤ capacity → Proper pages
      → IfSome (planned_put live (row_size row) pages
      (new_area live (row_size row) capacity pages))
      (λ plan. (plan.before ≡ None) × Carries owner purger capacity pages (Some row) plan)
  pub change :
      (owner purger : ℕ) (row : TableRow) (live : List ℕ) (capacity : ℕ)
      (pages : List (List Slot)) (home : Place)
      → row_size row ≤ 4046 → length pages ≤ capacity → Proper pages
      → is_home (slot_of pages home) ≡ true
      → IfSome (planned_change live (row_size row) capacity pages home)
      (λ plan. (plan.home ≡ home) × Carries owner purger capacity pages (Some row) plan)
  pub drop :
      (owner purger capacity : ℕ) (pages : List (List Slot)) (home : Place)
      → length pages ≤ capacity → Proper pages → is_home (slot_of pages home) ≡ true
      → Carries owner purger capacity pages None (planned_drop pages home (slot_of pages home))
  pub undo :
      (purger capacity : ℕ) (c : Written) (pages : List (List Slot))
      → length pages ≤ capacity → Proper pages → Undoable None (slot_of pages) c
      → WritesHome c.owner (length pages) pages c.before (planned_undo pages c)
      → Carries c.owner purger capacity pages c.before (planned_undo pages c)

-- what is held is at hand, where it is there; what is at hand is held; and a plan that is at hand
-- can be carried out
pub record PlansApply : Type 0 where
  pub ready :
      (s : Seen) (capacity : ℕ) (parts : List Part)
      → AllHeld s parts → AllThere (length s.pages) parts → AllReady s capacity parts
  pub held :
      (s : Seen) (capacity : ℕ) (parts : List Part) → AllReady s capacity parts → AllHeld s parts
  pub purge :
      (s : Seen) (owner purger capacity : ℕ) (row : Option TableRow) (plan : Plan)
      → AllReady s capacity plan.purge
      → Carries owner purger capacity (slots_of s.pages) row plan
      → CanApply s capacity purger None plan.purge
  pub parts :
      (s later : Seen) (owner purger capacity : ℕ) (row : Option TableRow) (plan : Plan)
      → AllReady later capacity plan.parts
      → Carries owner purger capacity (slots_of s.pages) row plan
      → slots_of later.pages ≡ cleared purger (slots_of s.pages) plan
      → CanApply later capacity owner row plan.parts
