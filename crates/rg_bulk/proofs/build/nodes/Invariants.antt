use Rattle.std.proofs.Common.{◌≡◌, ◌≤◌, length}
use Rattle.rg_bulk.specs.Branch.{joined, total}
use Rattle.std.specs.List.{AllByRecursion}
use Rattle.rg_bulk.specs.Shape.{IsKid}
use Rattle.rg_bulk.proofs.build.nodes.Given as goal

abbrev pub invariant-loop-alloc : goal.invariant-loop-alloc
invariant-loop-alloc l = record {
  all : joined l.level.items ≡ l.fn.entries;
  full : AllByRecursion (IsKid l.height) l.level.items;
  nodes : total (λ kid. kid.nodes) l.level.items ≡ l.nodes;
  inners : total (λ kid. kid.inners) l.level.items ≡ l.inners;
  several : 2 ≤ length l.level.items;
}

abbrev pub decreases-loop-alloc : goal.decreases-loop-alloc
decreases-loop-alloc l = length l.level.items
