use Rattle.std.proofs.Common.{◌<◌, suc, length, ◌∙◌, ap, arith}
use Rattle.rg_bulk.proofs.Filled.{nodes_of_kids, inners_of_kids}
use Rattle.rg_bulk.proofs.Heights.{level_low}
use Rattle.rg_bulk.proofs.build.nodes.Goals as goal

pub parents-requires-clause-low : goal.parents-requires-clause-low
parents-requires-clause-low c =
    let some : 0 < length c.loop-alloc.level.items =
    omega (arith, c.loop-alloc.invariant.several) in
    let low = level_low c.loop-alloc.height c.loop-alloc.level.items (length c.args.entries.now)
    c.loop-alloc.invariant.full some (ap length c.loop-alloc.invariant.all) (omega arith) in
    omega (arith, low)

pub gather-requires-clause-low : goal.gather-requires-clause-low
gather-requires-clause-low c =
    let some : 0 < length c.loop-alloc.level.items =
    omega (arith, c.loop-alloc.invariant.several) in
    let low = level_low c.loop-alloc.height c.loop-alloc.level.items (length c.args.entries.now)
    c.loop-alloc.invariant.full some (ap length c.loop-alloc.invariant.all) (omega arith) in
    omega (arith, low)

pub overflow_add-height : goal.overflow_add-height
overflow_add-height c =
    let some : 0 < length c.loop-alloc.level.items =
    omega (arith, c.loop-alloc.invariant.several) in
    let low = level_low c.loop-alloc.height c.loop-alloc.level.items (length c.args.entries.now)
    c.loop-alloc.invariant.full some (ap length c.loop-alloc.invariant.all) (omega arith) in
    omega (arith, low)

pub overflow_add-nodes : goal.overflow_add-nodes
overflow_add-nodes c =
    let all = ap length (c.in_ok-level-2.ensures.entries ∙ c.loop-alloc.invariant.all) in
    omega (
      arith,
      nodes_of_kids (suc c.loop-alloc.height) c.in_ok-level-2.level.items
          c.in_ok-level-2.ensures.full,
      c.in_ok-level-2.ensures.nodes,
      c.loop-alloc.invariant.nodes,
      c.in_ok-level-2.level.ok.0,
    )

pub overflow_add-inners : goal.overflow_add-inners
overflow_add-inners c =
    let all = ap length (c.in_ok-level-2.ensures.entries ∙ c.loop-alloc.invariant.all) in
    omega (
      arith,
      inners_of_kids (suc c.loop-alloc.height) c.in_ok-level-2.level.items
          c.in_ok-level-2.ensures.full,
      c.in_ok-level-2.ensures.inners,
      c.loop-alloc.invariant.inners,
      c.in_ok-level-2.level.ok.0,
    )

pub overflow_add-result : goal.overflow_add-result
overflow_add-result c =
    let all = ap length c.loop-alloc.invariant.all in
    omega (
      arith,
      nodes_of_kids c.loop-alloc.height c.loop-alloc.level.items c.loop-alloc.invariant.full,
      c.loop-alloc.invariant.nodes,
      c.loop-alloc.invariant.several,
    )

pub overflow_add-result-2 : goal.overflow_add-result-2
overflow_add-result-2 c =
    let all = ap length c.loop-alloc.invariant.all in
    omega (
      arith,
      inners_of_kids c.loop-alloc.height c.loop-alloc.level.items c.loop-alloc.invariant.full,
      c.loop-alloc.invariant.inners,
      c.loop-alloc.invariant.several,
    )
