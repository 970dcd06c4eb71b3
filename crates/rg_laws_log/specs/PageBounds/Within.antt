-- The pages that a write names: they are within the pages of a copy.
--
-- 1. A write names the page of its home, that of each part, and that of each place which a part
--    names.
-- 2. A new area is on a page that the copy may have. Every other place that a plan names is of a
--    slot that is there. So the plans of a put, a change, a drop and an undo name pages within the
--    copy alone (`PutIsWithin`, `ChangeIsWithin`, `DropIsWithin`, `UndoIsWithin`), and so does a
--    purge (`PurgeIsWithin`).
use Rattle.std.specs.Prelude.{◌≡◌, ◌≤◌, ℕ, Bool, true, List, length, Some, None}
use Rattle.std.specs.List.{AllByRecursion}
use Rattle.rg_base.specs.declared.part.Part.{Part}
use Rattle.rg_base.specs.declared.place.Place.{Place}
use Rattle.rg_home.specs.Able.{Proper, Undoable}
use Rattle.rg_home.specs.Pages.{slot_of}
use Rattle.rg_home.specs.Plan.{is_home, new_area, planned_change, planned_drop, planned_put}
use Rattle.rg_home.specs.Plan.{purge_of}
use Rattle.rg_home.specs.Slot.{Slot}
use Rattle.rg_home.specs.Undo.{planned_undo}
use Rattle.rg_home.specs.Written.{Written}
use Rattle.rg_home.specs.declared.plan.Plan.{Plan}
use Rattle.rg_image.specs.Rules.{IsPageOf, PartIn}

-- a write at this home, by these parts, names pages 1 to `limit`
pub record IsWithin (limit : ℕ) (home : Place) (parts : List Part) : Type 0 where
  pub home_is : IsPageOf limit home.page
  pub parts_are : AllByRecursion (PartIn limit) parts

abbrev pub PutIsWithin : Type 0
PutIsWithin =
    (live : List ℕ) (b limit : ℕ) (pages : List (List Slot)) (plan : Plan)
    → planned_put live b pages (new_area live b limit pages) ≡ Some plan
    → IsWithin limit plan.home plan.parts

abbrev pub ChangeIsWithin : Type 0
ChangeIsWithin =
    (live : List ℕ) (b limit : ℕ) (pages : List (List Slot)) (home : Place) (plan : Plan)
    → Proper pages → length pages ≤ limit → is_home (slot_of pages home) ≡ true
    → planned_change live b limit pages home ≡ Some plan → IsWithin limit plan.home plan.parts

abbrev pub DropIsWithin : Type 0
DropIsWithin =
    (limit : ℕ) (pages : List (List Slot)) (home : Place) → Proper pages → length pages ≤ limit
    → is_home (slot_of pages home) ≡ true
    → IsWithin limit home (planned_drop pages home (slot_of pages home)).parts

abbrev pub UndoIsWithin : Type 0
UndoIsWithin =
    (limit : ℕ) (pages : List (List Slot)) (c : Written) → Proper pages → length pages ≤ limit
    → Undoable None (slot_of pages) c → IsWithin limit c.home (planned_undo pages c).parts

abbrev pub PurgeIsWithin : Type 0
PurgeIsWithin =
    (live : List ℕ) (limit : ℕ) (pages : List (List Slot)) (n : ℕ) (purges : Bool)
    → length pages ≤ limit → AllByRecursion (PartIn limit) (purge_of live pages n purges)
