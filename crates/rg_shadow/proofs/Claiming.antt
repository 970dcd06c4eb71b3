-- What the pages claim after a plan is carried out, and when there is none.
use Rattle.std.proofs.Common.{◌≡◌, ◌≤◌, ◌+◌, ◌*◌, ℕ, true, List, [], length, Option, Some, None}
use Rattle.std.proofs.Common.{is_some, refl, subst, arith}
use Rattle.rg_base.specs.RowBytes.{row_size}
use Rattle.rg_base.specs.declared.place.Place.{Place}
use Rattle.rg_base.specs.declared.row.Row.{Row}
use Rattle.rg_laws_pages.specs.ByteClaims.Claim.{Covers, claimed_all, nobody}
use Rattle.rg_laws_pages.specs.ByteClaims.Weight.{weight}
use Rattle.rg_laws_pages.proofs.ByteClaimsLemmas.Full.{full_bound, no_change, no_put}
use Rattle.rg_laws_pages.proofs.ByteClaimsLemmas.Plans.{change_claims, drop_claims, put_claims}
use Rattle.rg_home.specs.Able.{Proper}
use Rattle.rg_home.specs.Pages.{row_or_empty, slot_of}
use Rattle.rg_home.specs.Plan.{new_area, pages_after}
use Rattle.rg_home.specs.Slot.{Slot}
use Rattle.rg_home.specs.declared.plan.Plan.{Plan}
use Rattle.rg_shadow.specs.Pieces.{IsMapped}
use Rattle.rg_shadow.specs.Planned.{IsFull, IsRefusal, change_plan, drop_plan, put_plan}
use Rattle.rg_shadow.specs.Shade.{Shade, home_rows, no_plan, plan_at, plan_for, shade_slots}
use Rattle.rg_shadow.specs.Shade.{target_of}
use Rattle.rg_shadow.specs.declared.fault.ShadowFault.{ShadowFault}
use Rattle.rg_shadow.specs.declared.fault.ShadowFault.TheVariants.{NoSpace, NoMemory}
use Rattle.rg_shadow.proofs.Planning.{home_there, of_some}

-- a plan claims at most the weight of the row that it brings
module _ (s : Shade) (proper : Proper (shade_slots s)) where
  abbrev Claims : Option Row → Plan → Type 0
  Claims after plan = claimed_all nobody (pages_after 0 (row_or_empty after) (shade_slots s) plan)
      ≤ claimed_all nobody (shade_slots s) + weight after

  at_target : (o : Option Place) (after : Option Row) (plan : Plan)
      → ((target : Place) → o ≡ Some target → is_some (home_rows s target) ≡ true)
      → plan_at s o after ≡ Some plan → Claims after plan
  at_target None None plan there is =
      let same : no_plan ≡ plan = cc (is) in
      subst (Claims None) same (omega arith)
  at_target None (Some row) plan there is =
      of_some (Claims (Some row)) (put_plan row s.capacity (shade_slots s)) plan
      (put_claims nobody 0 row [] (shade_slots s) proper.sound proper.tied (row_size row)
      s.capacity) is
  at_target (Some target) None plan there is =
      let same : drop_plan (shade_slots s) target ≡ plan = cc (is) in
      subst (Claims None) same
      (drop_claims nobody 0 (row_or_empty None) [] (shade_slots s) proper.sound proper.tied target
      (slot_of (shade_slots s) target) refl
      (home_there (slot_of (shade_slots s)) target (there target refl)))
  at_target (Some target) (Some row) plan there is =
      of_some (Claims (Some row)) (change_plan row s.capacity (shade_slots s) target) plan
      (change_claims nobody 0 row [] (shade_slots s) proper.sound proper.tied target (row_size row)
      s.capacity (home_there (slot_of (shade_slots s)) target (there target refl))) is

  pub plan_claims : (source : Place) (after : Option Row) (plan : Plan)
      → IsMapped s.targets (home_rows s) → plan_for s source after ≡ Some plan
      → claimed_all nobody (pages_after 0 (row_or_empty after) (shade_slots s) plan)
      ≤ claimed_all nobody (shade_slots s) + weight after
  plan_claims source after plan mapped is =
      at_target (target_of s source) after plan (λ target e. mapped.rows_are source target e) is

-- nobody holds what no unit has
covers_none : Covers nobody []
covers_none t live = absurd (cc (live))

full_area : (b capacity : ℕ) (pages : List (List Slot)) → b ≤ 826 → length pages ≤ capacity
    → new_area [] b capacity pages ≡ None → 3221 * capacity ≤ claimed_all nobody pages
full_area b capacity pages small few none =
    full_bound nobody [] covers_none b capacity pages small few none

pub put_full : (row : Row) (capacity : ℕ) (pages : List (List Slot)) (fault : ShadowFault)
    → row_size row ≤ 826 → length pages ≤ capacity
    → IsRefusal (put_plan row capacity pages) fault
    → IsFull (put_plan row capacity pages) capacity pages fault
put_full row capacity pages NoSpace small few none = (
  none,
  full_area (row_size row) capacity pages small few (no_put [] (row_size row) capacity pages none),
)
put_full row capacity pages NoMemory small few none = tt

pub change_full :
    (row : Row) (home : Place) (capacity : ℕ) (pages : List (List Slot)) (fault : ShadowFault)
    → row_size row ≤ 826 → length pages ≤ capacity
    → IsRefusal (change_plan row capacity pages home) fault
    → IsFull (change_plan row capacity pages home) capacity pages fault
change_full row home capacity pages NoSpace small few none = (
  none,
  full_area (row_size row) capacity pages small few
      (no_change [] (row_size row) capacity pages home none),
)
change_full row home capacity pages NoMemory small few none = tt
