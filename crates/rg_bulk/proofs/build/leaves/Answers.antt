use Rattle.std.proofs.Common.{◌≡◌, [], ◌∷◌, ◌++◌, sym, ◌∙◌, ap, arith, length-append}
use Rattle.std.proofs.lemmas.Grind.{common_steps}
use Rattle.rg_bulk.specs.Branch.{total}
use Rattle.rg_bulk.proofs.Levels.{total-append}
use Rattle.rg_bulk.proofs.build.leaves.Goals as goal

pub loop-left-preserved : goal.loop-left-preserved
loop-left-preserved c =
    let items = c.in_ok-push_back.ensures.items in
    let leaf = c.in_ok-leaf.ensures in
    let node = ap (λ b. b.nodes) leaf in
    let inner = ap (λ b. b.inners) leaf in
    let nodes = ap (total (λ kid. kid.nodes)) items
    ∙ total-append (λ kid. kid.nodes) c.loop-left.level.items (c.in_ok-leaf.field-0 ∷ []) in
    let inners = ap (total (λ kid. kid.inners)) items
    ∙ total-append (λ kid. kid.inners) c.loop-left.level.items (c.in_ok-leaf.field-0 ∷ []) in
    let count = ap Rattle.std.proofs.Common.length items
    ∙ length-append c.loop-left.level.items (c.in_ok-leaf.field-0 ∷ []) in
    record {
      all = grind (arith, common_steps);
      full = grind (arith, common_steps);
      enough = grind (arith, common_steps);
      begun = grind (arith, common_steps);
      nodes = omega (arith, c.loop-left.invariant.nodes);
      inners = omega (arith, c.loop-left.invariant.inners);
      several = grind (arith, common_steps);
    }
