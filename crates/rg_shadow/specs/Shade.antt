-- What is seen of a new copy, and what a change does to it.
--
-- 1. A source is a place of the old copy. The row of a source has its home in the new copy at the
--    source's target.
-- 2. A change of a source changes the row of that source alone. Every other source keeps its row,
--    its target, and where the row lies. So a row that no change names lies as it was packed.
-- 3. The pages are those that the plans of puts, changes and drops leave, where no unit is live. No
--    record of the log changes one of them: its position stays 0 until it is given another one, as
--    it goes to a volume.
use Rattle.std.specs.Prelude.{◌≡◌, ◌≤◌, ◌+◌, ℕ, Bool, true, false, List, [], Option, Some, None}
use Rattle.std.specs.Prelude.{is_some, IsSomeAnd}
use Rattle.std.specs.FinMap as map
use Rattle.rg_base.specs.declared.place.Place.{Place}
use Rattle.rg_base.specs.declared.row.Row.{Row}
use Rattle.rg_base.specs.declared.which.Which.{Which}
use Rattle.rg_base.specs.declared.which.Which.TheVariants.{Key, Clus, Cat}
use Rattle.rg_laws_pages.specs.ByteClaims.Claim.{claimed_all, nobody}
use Rattle.rg_laws_pages.specs.ByteClaims.Weight.{weight}
use Rattle.rg_feed.specs.Fold.Fed.{SetsRow}
use Rattle.rg_home.specs.Pages.{row_or_empty, slot_of}
use Rattle.rg_home.specs.Plan.{pages_after}
use Rattle.rg_home.specs.Rows.{lies_at, row_at}
use Rattle.rg_home.specs.Slot.{Slot}
use Rattle.rg_home.specs.declared.plan.Plan.{Plan}
use Rattle.rg_map.specs.Mapping.{Targets}
use Rattle.rg_home.specs.Table.{IsTable}
use Rattle.rg_base.specs.Place.{same_place}
use Rattle.rg_model.specs.Layout.{is_right_side}
use Rattle.rg_model.specs.State.{Table, row_of}
use Rattle.rg_page.specs.Content.{Content, slots_of}
use Rattle.rg_reload.specs.Moved.{row_through}
use Rattle.rg_shadow.specs.Planned.{AreUnlogged, IsFull, change_plan, drop_plan, put_plan}
use Rattle.rg_shadow.specs.declared.drafts.IndexStage.{IndexStage}
use Rattle.rg_shadow.specs.declared.drafts.IndexStage.TheVariants.{Unsorted, Sorted, Built}
use Rattle.rg_shadow.specs.declared.fault.ShadowFault.{ShadowFault}
use Rattle.rg_stmt.specs.declared.layout.Side.{Side}

-- the copy, its capacity in pages, its pages, the targets, and how far each index is made
pub record Shade : Type 0 where
  pub copy : ℕ
  pub capacity : ℕ
  pub pages : List Content
  pub targets : Targets
  pub keys : IndexStage
  pub cluses : IndexStage
  pub cats : IndexStage

abbrev pub shade_slots : Shade → List (List Slot)
shade_slots s = slots_of s.pages

-- the row whose home is at a place of the new copy
abbrev pub home_rows : Shade → Place → Option Row
home_rows s place = row_at (slot_of (shade_slots s)) place

-- the target of a source
abbrev pub target_of : Shade → Place → Option Place
target_of s source = map.get s.targets source

-- the row of a source
abbrev pub source_rows : Shade → Place → Option Row
source_rows s source = row_through (home_rows s) (target_of s source)

-- where the row lies whose home is at a place of the new copy
abbrev pub lies_in : Shade → Place → Option Place
lies_in s place = lies_at place (slot_of (shade_slots s) place)

-- how far an index is made
abbrev pub stage_in : Which → Shade → IndexStage
stage_in Key s = s.keys
stage_in Clus s = s.cluses
stage_in Cat s = s.cats

abbrev pub is_built_stage : IndexStage → Bool
is_built_stage Unsorted = false
is_built_stage Sorted = false
is_built_stage Built = true

-- one index is made so far
abbrev pub with_stage : Which → IndexStage → Shade → Shade
with_stage Key stage s = record s { keys = stage }
with_stage Clus stage s = record s { cluses = stage }
with_stage Cat stage s = record s { cats = stage }

-- a layout is right for the table whose rows are those at their homes
abbrev pub IsRightSideOf : Shade → Side → Type 0
IsRightSideOf s side = (table : Table) → IsTable (home_rows s) (λ key. row_of table key)
    → is_right_side table side ≡ true

-- no plan is needed
abbrev pub no_plan : Plan
no_plan = record { home = record { page = 0; slot = 0 }; before = None; purge = []; parts = [] }

-- the plan that gives a source with this target a row, or takes it away; none where there is no
-- room
abbrev pub plan_at : Shade → Option Place → Option Row → Option Plan
plan_at s None None = Some no_plan
plan_at s None (Some row) = put_plan row s.capacity (shade_slots s)
plan_at s (Some target) None = Some (drop_plan (shade_slots s) target)
plan_at s (Some target) (Some row) = change_plan row s.capacity (shade_slots s) target

-- the plan that makes the row of a source this one
abbrev pub plan_for : Shade → Place → Option Row → Option Plan
plan_for s source after = plan_at s (target_of s source) after

-- The row of a source is this one, and all else is as it was. A source that keeps a row keeps its
-- target. The pages claim at most the weight of the row more. What was built stays so.
pub record Applies (old : Shade) (source : Place) (after : Option Row) (new : Shade) : Type 0 where
  pub rows : SetsRow (source_rows old) (source_rows new) source after
  pub targets : (other : Place) → same_place source other ≡ false
      → target_of new other ≡ target_of old other
  pub stays : (target : Place) → target_of old source ≡ Some target → is_some after ≡ true
      → target_of new source ≡ Some target
  pub lie : (other target : Place) → same_place source other ≡ false
      → target_of old other ≡ Some target → lies_in new target ≡ lies_in old target
  pub pages : IsSomeAnd (plan_for old source after) (λ plan.
      shade_slots new ≡ pages_after 0 (row_or_empty after) (shade_slots old) plan)
  pub claims :
      claimed_all nobody (shade_slots new)
      ≤ claimed_all nobody (shade_slots old) + weight after
  pub positions : AreUnlogged old.pages → AreUnlogged new.pages
  pub copy : new.copy ≡ old.copy
  pub capacity : new.capacity ≡ old.capacity
  pub built : (which : Which) → stage_in which old ≡ Built → stage_in which new ≡ Built

-- Why it is not: there is no plan, so no room, and then the pages claim 3,221 bytes for each that
-- there may be. Or there is no memory.
abbrev pub Refuses : Shade → Place → Option Row → ShadowFault → Type 0
Refuses s source after fault =
    IsFull (plan_for s source after) s.capacity (shade_slots s) fault
