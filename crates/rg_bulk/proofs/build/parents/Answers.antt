use Rattle.std.proofs.Common.{◌≡◌, ◌<◌, ◌++◌, [], ◌∷◌, length, drop, sym, ◌∙◌, ap, subst, arith}
use Rattle.rg_bulk.specs.Share.{IsShare}
use Rattle.rg_bulk.proofs.Levels.{IsStep, stepped}
use Rattle.rg_bulk.proofs.build.parents.Goals as goal

pub loop-alloc-preserved : goal.loop-alloc-preserved
loop-alloc-preserved c =
    let at : IsStep c.args.height c.args.level.items c.loop-alloc.above.items
    c.loop-alloc.level.items = record {
      all = c.loop-alloc.invariant.all;
      full = c.loop-alloc.invariant.full;
      left = c.loop-alloc.invariant.left;
      enough = c.loop-alloc.invariant.enough;
      begun = c.loop-alloc.invariant.begun;
      several = c.loop-alloc.invariant.several;
      nodes = c.loop-alloc.invariant.nodes;
      inners = c.loop-alloc.invariant.inners;
      fewer = c.loop-alloc.invariant.fewer;
    } in
    let count : c.len-in-loop-alloc.result ≡ length c.loop-alloc.level.items =
    omega (arith, c.loop-alloc.level.ok.0) in
    let some : 0 < length c.loop-alloc.level.items = omega (arith, c.loop-alloc.level.ok.0) in
    let step = stepped c.args.height c.args.level.items c.loop-alloc.above.items
    c.loop-alloc.level.items c.share-size.result at
    (subst (λ n. IsShare n 225 112 c.share-size.result) count c.share-size.ensures) some in
    let above = c.in_ok-push_back.ensures.items
    ∙ ap (λ node. c.loop-alloc.above.items ++ node ∷ []) c.in_ok-gather.ensures.node in
    let after =
    subst (λ level. IsStep c.args.height c.args.level.items c.push_back.new.self.items level)
    (sym c.in_ok-gather.ensures.rest)
    (subst
    (λ xs. IsStep c.args.height c.args.level.items xs
    (drop c.share-size.result c.loop-alloc.level.items)) (sym above) step) in
    record {
      all = after.all;
      full = after.full;
      left = after.left;
      enough = after.enough;
      begun = after.begun;
      several = after.several;
      nodes = after.nodes;
      inners = after.inners;
      fewer = after.fewer;
    }
