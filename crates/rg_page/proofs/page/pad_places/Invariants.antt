use Rattle.std.proofs.Common.{◌≡◌, ◌≤◌, ◌-◌, length, vec_capacity}
use Rattle.rg_base.specs.declared.place.Place.{Place}
use Rattle.rg_home.specs.Pages.{altered}
use Rattle.rg_page.specs.Bare.{nowhere}
use Rattle.rg_page.proofs.page.pad_places.Given as goal

abbrev pub invariant-loop-others : goal.invariant-loop-others
invariant-loop-others l = record {
  in_range : length l.others.items ≤ l.count;
  capacity : vec_capacity l.fn.others ≤ vec_capacity l.others;
  same : (x : Place)
      → altered nowhere (λ _. x) l.others.items l.count
      ≡ altered nowhere (λ _. x) l.fn.others.items l.count;
}

abbrev pub decreases-loop-others : goal.decreases-loop-others
decreases-loop-others l = l.count - length l.others.items
