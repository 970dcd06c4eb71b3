use Rattle.std.proofs.Common.{◌+◌, List, subst, sym}
use Rattle.std.specs.List.{AllByRecursion}
use Rattle.rg_base.specs.declared.place.Place.{Place}
use Rattle.rg_base.specs.declared.row.Row.{Row}
use Rattle.rg_feed.specs.Fold.Lawful.{AreApart}
use Rattle.rg_reload.proofs.Apart.{IsBelow, apart-push, below-push}
use Rattle.rg_tests_utility.proofs.shadow.falling_rows.Goals as goal

pub loop-slot-preserved : goal.loop-slot-preserved
loop-slot-preserved c =
    let i = c.loop-slot.invariant in
    let place : Place = record { page = 1; slot = c.loop-slot.slot } in
    let row = c.in_ok-row.field-0 in
    record {
      below = subst
          (λ (rows : List (Place × Row)). AllByRecursion (IsBelow (c.loop-slot.slot + 1)) rows)
          (sym c.in_ok-push.ensures.items)
          (below-push c.loop-slot.rows.items place row i.below);
      apart = subst AreApart (sym c.in_ok-push.ensures.items)
          (apart-push c.loop-slot.rows.items place row i.below i.apart);
    }
