use Rattle.std.proofs.Common.{◌≡◌, ◌≤◌, ◌<◌, ◌++◌, length}
use Rattle.rg_bulk.specs.Branch.{joined, total}
use Rattle.std.specs.List.{AllByRecursion}
use Rattle.rg_bulk.specs.Shape.{IsKid}
use Rattle.rg_bulk.proofs.build.leaves.Given as goal

abbrev pub invariant-loop-left : goal.invariant-loop-left
invariant-loop-left l = record {
  all : l.fn.entries ≡ joined l.level.items ++ l.left;
  full : AllByRecursion (IsKid 0) l.level.items;
  enough : 0 < length l.left → 128 ≤ length l.left;
  begun : length l.level.items ≡ 0 → 256 < length l.left;
  nodes : total (λ kid. kid.nodes) l.level.items ≡ length l.level.items;
  inners : total (λ kid. kid.inners) l.level.items ≡ 0;
  several : length l.left ≡ 0 → 2 ≤ length l.level.items;
}

abbrev pub decreases-loop-left : goal.decreases-loop-left
decreases-loop-left l = length l.left
