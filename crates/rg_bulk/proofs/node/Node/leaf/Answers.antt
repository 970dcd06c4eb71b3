use Rattle.std.proofs.Common.{[], ◌++◌, ◌∙◌, ap, length, arith}
use Rattle.rg_bulk.specs.Branch.{branch_of}
use Rattle.rg_bulk.proofs.node.Node.leaf.Goals as goal

pub returns : goal.returns
returns c = ap (λ es. branch_of 0 es [])
    (c.in_ok-extend_from_slice.ensures.items
    ∙ ap (λ es. es ++ c.args.entries.now) c.in_ok-keys.ensures.items)

pub invariant_of-result : goal.invariant_of-result
invariant_of-result c = record {
  none = c.new.ensures.items;
  most = let items = ap length
      (c.in_ok-extend_from_slice.ensures.items
      ∙ ap (λ es. es ++ c.args.entries.now) c.in_ok-keys.ensures.items) in omega arith;
  room = omega (arith, c.in_ok-keys.ensures.capacity, c.in_ok-extend_from_slice.ensures.capacity);
}
