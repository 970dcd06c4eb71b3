use Rattle.std.proofs.Common.{◌≡◌, ◌≤◌, ◌-◌, ℕ, List, [], length}
use Rattle.rg_home.specs.Pages.{altered}
use Rattle.rg_page.specs.Stretches.{filled_by}
use Rattle.rg_page.proofs.page.pad_areas.Given as goal

abbrev pub invariant-loop-areas : goal.invariant-loop-areas
invariant-loop-areas l = record {
  in_range : length l.areas ≤ l.count;
  filled : filled_by l.areas ≡ filled_by l.fn.areas;
  same : (x : List ℕ)
      → altered [] (λ _. x) l.areas l.count ≡ altered [] (λ _. x) l.fn.areas l.count;
}

abbrev pub decreases-loop-areas : goal.decreases-loop-areas
decreases-loop-areas l = l.count - length l.areas
