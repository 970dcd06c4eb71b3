use Rattle.std.proofs.Common.{◌≡◌, ◌≤◌, length, take}
use Rattle.rg_home.specs.Slots.{trim}
use Rattle.rg_page.proofs.summary.cut.Given as goal

abbrev pub invariant-loop-n : goal.invariant-loop-n
invariant-loop-n l = record {
  in_range : l.n ≤ length l.headers.items;
  same : trim (take l.n l.headers.items) ≡ trim l.headers.items;
}

abbrev pub decreases-loop-n : goal.decreases-loop-n
decreases-loop-n l = l.n
