use Rattle.std.proofs.Common.{◌≡◌, ◌≤◌, ◌<◌, ◌+◌, ◌*◌, ◌++◌, suc, length}
use Rattle.rg_bulk.specs.Branch.{joined, total}
use Rattle.std.specs.List.{AllByRecursion}
use Rattle.rg_bulk.specs.Shape.{IsKid}
use Rattle.rg_bulk.proofs.build.parents.Given as goal

abbrev pub invariant-loop-alloc : goal.invariant-loop-alloc
invariant-loop-alloc l = record {
  all : joined l.fn.level.items ≡ joined l.above.items ++ joined l.level.items;
  full : AllByRecursion (IsKid (suc l.height)) l.above.items;
  left : AllByRecursion (IsKid l.height) l.level.items;
  enough : 0 < length l.level.items → 112 ≤ length l.level.items;
  begun : length l.above.items ≡ 0 → 225 < length l.level.items;
  several : length l.level.items ≡ 0 → 2 ≤ length l.above.items;
  nodes : total (λ kid. kid.nodes) l.above.items + total (λ kid. kid.nodes) l.level.items
      ≡ total (λ kid. kid.nodes) l.fn.level.items + length l.above.items;
  inners : total (λ kid. kid.inners) l.above.items + total (λ kid. kid.inners) l.level.items
      ≡ total (λ kid. kid.inners) l.fn.level.items + length l.above.items;
  fewer : 2 * length l.above.items + length l.level.items ≤ length l.fn.level.items;
}

abbrev pub decreases-loop-alloc : goal.decreases-loop-alloc
decreases-loop-alloc l = length l.level.items
