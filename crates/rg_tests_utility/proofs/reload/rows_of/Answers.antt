use Rattle.std.proofs.Common.{◌+◌, List, ap, sym, subst}
use Rattle.std.specs.List.{AllByRecursion}
use Rattle.rg_base.specs.declared.place.Place.{Place}
use Rattle.rg_base.specs.declared.row.Row.{Row}
use Rattle.rg_feed.specs.Fold.Lawful.{AreApart}
use Rattle.rg_reload.proofs.Apart.{IsBelow, apart-push, below-push}
use Rattle.rg_tests_utility.proofs.reload.rows_of.Goals as goal

pub loop-clus-preserved : goal.loop-clus-preserved
loop-clus-preserved c =
    let i = c.loop-clus.invariant in
    let place : Place = record { page = 1; slot = c.loop-clus.slot } in
    let row = c.in_ok-long_row.field-0 in
    record {
      slot = ap (λ n. n + 1) i.slot;
      below = subst
          (λ (rows : List (Place × Row)). AllByRecursion (IsBelow (c.loop-clus.slot + 1)) rows)
          (sym c.in_ok-push.ensures.items)
          (below-push c.loop-clus.rows.items place row i.below);
      apart = subst AreApart (sym c.in_ok-push.ensures.items)
          (apart-push c.loop-clus.rows.items place row i.below i.apart);
    }
