-- All that the plan of a put gives.
use Rattle.std.proofs.Common.{◌≡◌, ℕ, ◌≤◌, List, Some, IfSome, subst}
use Rattle.rg_home.specs.Slot.{Slot}
use Rattle.rg_base.specs.declared.row.Row.{Row as TableRow}
use Rattle.rg_home.specs.declared.plan.Plan.{Plan}
use Rattle.rg_home.specs.Rows.{Tied}
use Rattle.rg_home.specs.Pages.{slot_of, applied, FitsAll, Sound}
use Rattle.rg_home.specs.Plan.{planned_put, new_area}
use Rattle.rg_home.proofs.Planned.{Does, new_open, put_does}
use Rattle.rg_home.proofs.Fit.{new_takes, put_fits}

pub put_whole : (owner : ℕ) (after : TableRow) (limit : ℕ) (live : List ℕ)
    (pages : List (List Slot)) (b capacity : ℕ) (plan : Plan)
    → Tied (slot_of pages) → Sound pages → b ≤ 4046 → capacity ≤ limit
    → planned_put live b pages (new_area live b capacity pages) ≡ Some plan
    → FitsAll owner after limit pages plan.purge
    × FitsAll owner after limit (applied owner after pages plan.purge) plan.parts
    × Does owner after pages plan (Some after)
put_whole owner after limit live pages b capacity plan tied sound small within is =
    let fits = subst
    (λ o. IfSome o
    (λ p. FitsAll owner after limit pages p.purge
    × FitsAll owner after limit (applied owner after pages p.purge) p.parts)) is
    (put_fits owner after limit live pages sound b (new_area live b capacity pages)
    (new_takes owner after limit live pages sound b capacity small within)) in
    let does = subst (λ o. IfSome o (λ p. Does owner after pages p (Some after))) is
    (put_does owner after live pages b (new_area live b capacity pages) tied
    (new_open owner after live pages tied (record { page = 0; slot = 0 }) b capacity)) in
    (fits.0, fits.1, does)
