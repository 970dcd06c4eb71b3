-- A plan, carried out by two records.
--
-- 1. The first purges: it frees dead areas on one page that is there. It brings no row, and may be
--    of another owner than the plan's. Where the plan purges nothing there is no such record.
-- 2. The second writes the parts of the plan, on pages that are there or on the next one.
-- 3. The purge changes no row and moves none. The parts change the row of the plan's home alone.
--    The pages are proper after each of the two.
use Rattle.std.specs.Prelude.{◌≡◌, ◌≤◌, ℕ, List, [], ◌∷◌, Option, None, length}
use Rattle.rg_base.specs.declared.part.Part.{Part}
use Rattle.rg_base.specs.declared.part.SlotOp.TheVariants as Op
use Rattle.rg_base.specs.declared.row.Row.{Row as TableRow}
use Rattle.rg_home.specs.Able.{Proper}
use Rattle.rg_home.specs.Laws.{WritesHome, KeepsRows}
use Rattle.rg_home.specs.Pages.{slot_of, applied, row_or_empty, FitsAll, TakesAll}
use Rattle.rg_home.specs.Plan.{pages_after}
use Rattle.rg_home.specs.Slot.{Slot}
use Rattle.rg_home.specs.declared.plan.Plan.{Plan}
use Rattle.rg_space.specs.Applied.{AllNext}

-- each part makes its slot Free
abbrev pub AllFree : List Part → Type 0
AllFree [] = Unit {0}
AllFree (x ∷ parts) = (x.op ≡ Op.Free) × AllFree parts

-- the page of each part is one of so many
abbrev pub AllThere : (n : ℕ) → List Part → Type 0
AllThere n [] = Unit {0}
AllThere n (x ∷ parts) = (1 ≤ x.page) × (x.page ≤ n) × AllThere n parts

-- The purge of a plan frees slots of pages that are there, of so many. Its parts are on those, or
-- on the next.
pub record PlanNext (n : ℕ) (plan : Plan) : Type 0 where
  pub purge : AllThere n plan.purge
  pub frees : AllFree plan.purge
  pub parts : AllNext n plan.parts

-- the pages once a plan has purged, by a record of this owner
abbrev pub cleared : (purger : ℕ) → List (List Slot) → Plan → List (List Slot)
cleared purger pages plan = applied purger (row_or_empty None) pages plan.purge

-- both records fit in their turn, and they do what the plan does
pub record Carries
    (owner purger capacity : ℕ) (pages : List (List Slot)) (row : Option TableRow) (plan : Plan)
    : Type 0 where
  pub writes : WritesHome owner capacity pages row plan
  pub next : PlanNext (length pages) plan
  pub purge_fits : FitsAll purger (row_or_empty None) capacity pages plan.purge
  pub purge_takes : TakesAll None plan.purge
  pub purge_keeps : KeepsRows (slot_of pages) (slot_of (cleared purger pages plan))
  pub purge_proper : Proper (cleared purger pages plan)
  pub purge_count : length (cleared purger pages plan) ≡ length pages
  pub parts_fit : FitsAll owner (row_or_empty row) capacity (cleared purger pages plan) plan.parts
  pub after :
      applied owner (row_or_empty row) (cleared purger pages plan) plan.parts
      ≡ pages_after owner (row_or_empty row) pages plan
