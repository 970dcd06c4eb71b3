use Rattle.std.proofs.Common.{◌≡◌, ◌<◌, ◌-◌, suc, take, drop, sym, ◌∙◌, ap, subst, vec_capacity}
use Rattle.std.proofs.Common.{arith}
use Rattle.std.specs.List.{AllByRecursion}
use Rattle.rg_base.proofs.Each.{Each-drop}
use Rattle.rg_bulk.specs.Shape.{IsKid}
use Rattle.rg_btree.specs.Child.{firsts}
use Rattle.rg_btree.proofs.Below.{below, keys_rise, reduced, part_of, least_some, each_short}
use Rattle.rg_btree.proofs.Kids.{inner_of, branch_is, take_set, drop_set, firsts-take, firsts-drop}
use Rattle.rg_btree.proofs.remove.+remove_below.Goals as goal

pub child_of-at-requires-clause-rising : goal.child_of-at-requires-clause-rising
child_of-at-requires-clause-rising t c = keys_rise c.node.inside.height c.node.inside.keys.items
    c.node.inside.kids.items (vec_capacity c.node.inside.keys) (vec_capacity c.node.inside.kids)
    c.args.node.now c.as_slice-2.result.now c.node.invariant c.if-node-eq0.false c.node.view_is
    c.requires.rising c.as_slice-2.ensures.value

pub remove_below-there-requires : goal.remove_below-there-requires
remove_below-there-requires t c =
    let at = below c.args.entry c.node.inside.height c.node.inside.keys.items
    c.node.inside.kids.items (vec_capacity c.node.inside.keys) (vec_capacity c.node.inside.kids)
    c.args.node.now c.as_slice-2.result.now c.child_of-at.result c.index_mut.result.now
    c.node.invariant c.if-node-eq0.false c.node.view_is c.requires.rising c.as_slice-2.ensures.value
    c.child_of-at.ensures c.index_mut.ensures.value in
    let nodes = part_of (λ kid. kid.nodes) c.args.entry c.node.inside.height
    c.node.inside.kids.items c.child_of-at.result c.index_mut.result.now c.args.node.now at in
    let inners = part_of (λ kid. kid.inners) c.args.entry c.node.inside.height
    c.node.inside.kids.items c.child_of-at.result c.index_mut.result.now c.args.node.now at in
    let all_nodes = at.nodes in
    let all_inners = at.inners in
    let before : c.args.node.now.height ≡ t = c.decreases in
    let falls : c.index_mut.result.now.height < t =
    omega (arith, at.kid.level, at.height, c.if-node-eq0.false) in (
      falls,
      (
        at.rising,
        (
          (λ high. omega (arith, at.kid.fill, least_some (c.node.inside.height - 1))),
          (omega (arith, c.requires.key_buffer), omega (arith, c.requires.kid_buffer)),
        ),
      ),
    )

pub settle_kid-requires-clause-front_keys : goal.settle_kid-requires-clause-front_keys
settle_kid-requires-clause-front_keys t c =
    let inner = inner_of c.node.inside.height c.node.inside.keys.items c.node.inside.kids.items
    (vec_capacity c.node.inside.keys) (vec_capacity c.node.inside.kids) c.if-node-eq0.false
    c.node.invariant in
    ap (take c.child_of-at.result) inner.keys_are
    ∙ firsts-take c.child_of-at.result c.node.inside.kids.items
    ∙ ap firsts
    (sym (take_set c.node.inside.kids.items c.child_of-at.result c.remove_below-there.new.node))

pub settle_kid-requires-clause-back_keys : goal.settle_kid-requires-clause-back_keys
settle_kid-requires-clause-back_keys t c =
    let inner = inner_of c.node.inside.height c.node.inside.keys.items c.node.inside.kids.items
    (vec_capacity c.node.inside.keys) (vec_capacity c.node.inside.kids) c.if-node-eq0.false
    c.node.invariant in
    ap (drop (suc c.child_of-at.result)) inner.keys_are
    ∙ firsts-drop (suc c.child_of-at.result) c.node.inside.kids.items
    ∙ ap firsts
    (sym (drop_set c.node.inside.kids.items c.child_of-at.result c.remove_below-there.new.node))

pub settle_kid-requires-clause-short : goal.settle_kid-requires-clause-short
settle_kid-requires-clause-short t c =
    let at = below c.args.entry c.node.inside.height c.node.inside.keys.items
    c.node.inside.kids.items (vec_capacity c.node.inside.keys) (vec_capacity c.node.inside.kids)
    c.args.node.now c.as_slice-2.result.now c.child_of-at.result c.index_mut.result.now
    c.node.invariant c.if-node-eq0.false c.node.view_is c.requires.rising c.as_slice-2.ensures.value
    c.child_of-at.ensures c.index_mut.ensures.value in
    each_short (c.node.inside.height - 1) c.node.inside.kids.items c.child_of-at.result
    c.remove_below-there.new.node at.each (c.remove_below-there.ensures.height ∙ at.kid.level)
    (omega (arith, at.kid.fill, c.remove_below-there.ensures.fill))

pub settle_kid-requires-clause-back : goal.settle_kid-requires-clause-back
settle_kid-requires-clause-back t c =
    let at = below c.args.entry c.node.inside.height c.node.inside.keys.items
    c.node.inside.kids.items (vec_capacity c.node.inside.keys) (vec_capacity c.node.inside.kids)
    c.args.node.now c.as_slice-2.result.now c.child_of-at.result c.index_mut.result.now
    c.node.invariant c.if-node-eq0.false c.node.view_is c.requires.rising c.as_slice-2.ensures.value
    c.child_of-at.ensures c.index_mut.ensures.value in
    subst (AllByRecursion (IsKid (c.node.inside.height - 1)))
    (sym (drop_set c.node.inside.kids.items c.child_of-at.result c.remove_below-there.new.node))
    (Each-drop (IsKid (c.node.inside.height - 1)) (suc c.child_of-at.result)
    c.node.inside.kids.items at.each)

pub settle_kid-requires-clause-key_buffer : goal.settle_kid-requires-clause-key_buffer
settle_kid-requires-clause-key_buffer t c =
    let at = below c.args.entry c.node.inside.height c.node.inside.keys.items
    c.node.inside.kids.items (vec_capacity c.node.inside.keys) (vec_capacity c.node.inside.kids)
    c.args.node.now c.as_slice-2.result.now c.child_of-at.result c.index_mut.result.now
    c.node.invariant c.if-node-eq0.false c.node.view_is c.requires.rising c.as_slice-2.ensures.value
    c.child_of-at.ensures c.index_mut.ensures.value in
    let nodes = part_of (λ kid. kid.nodes) c.args.entry c.node.inside.height
    c.node.inside.kids.items c.child_of-at.result c.index_mut.result.now c.args.node.now at in
    let inners = part_of (λ kid. kid.inners) c.args.entry c.node.inside.height
    c.node.inside.kids.items c.child_of-at.result c.index_mut.result.now c.args.node.now at in
    let all_nodes = at.nodes in
    let all_inners = at.inners in
    omega (
      arith,
      c.requires.key_buffer,
      c.remove_below-there.ensures.pool_keys,
      c.remove_below-there.ensures.key_room,
    )

pub settle_kid-requires-clause-kid_buffer : goal.settle_kid-requires-clause-kid_buffer
settle_kid-requires-clause-kid_buffer t c =
    let at = below c.args.entry c.node.inside.height c.node.inside.keys.items
    c.node.inside.kids.items (vec_capacity c.node.inside.keys) (vec_capacity c.node.inside.kids)
    c.args.node.now c.as_slice-2.result.now c.child_of-at.result c.index_mut.result.now
    c.node.invariant c.if-node-eq0.false c.node.view_is c.requires.rising c.as_slice-2.ensures.value
    c.child_of-at.ensures c.index_mut.ensures.value in
    let nodes = part_of (λ kid. kid.nodes) c.args.entry c.node.inside.height
    c.node.inside.kids.items c.child_of-at.result c.index_mut.result.now c.args.node.now at in
    let inners = part_of (λ kid. kid.inners) c.args.entry c.node.inside.height
    c.node.inside.kids.items c.child_of-at.result c.index_mut.result.now c.args.node.now at in
    let all_nodes = at.nodes in
    let all_inners = at.inners in
    λ high. omega (
      arith,
      c.requires.kid_buffer,
      c.remove_below-there.ensures.pool_kids,
      c.remove_below-there.ensures.kid_room,
    )

pub returns-clause-there : goal.returns-clause-there
returns-clause-there t c =
    let at = below c.args.entry c.node.inside.height c.node.inside.keys.items
    c.node.inside.kids.items (vec_capacity c.node.inside.keys) (vec_capacity c.node.inside.kids)
    c.args.node.now c.as_slice-2.result.now c.child_of-at.result c.index_mut.result.now
    c.node.invariant c.if-node-eq0.false c.node.view_is c.requires.rising c.as_slice-2.ensures.value
    c.child_of-at.ensures c.index_mut.ensures.value in
    c.remove_below-there.ensures.there ∙ sym at.has

pub returns-clause-entries : goal.returns-clause-entries
returns-clause-entries t c =
    let at = below c.args.entry c.node.inside.height c.node.inside.keys.items
    c.node.inside.kids.items (vec_capacity c.node.inside.keys) (vec_capacity c.node.inside.kids)
    c.args.node.now c.as_slice-2.result.now c.child_of-at.result c.index_mut.result.now
    c.node.invariant c.if-node-eq0.false c.node.view_is c.requires.rising c.as_slice-2.ensures.value
    c.child_of-at.ensures c.index_mut.ensures.value in
    let now = reduced c.args.entry c.node.inside.height c.node.inside.kids.items
    c.child_of-at.result c.index_mut.result.now c.args.node.now c.remove_below-there.new.node at
    c.remove_below-there.ensures.entries in
    let whole = branch_is c.node.inside.height c.settle_kid.new.keys.items
    c.settle_kid.new.kids.items c.if-node-eq0.false in
    ap (λ b. b.entries) whole ∙ c.settle_kid.ensures.entries ∙ now.all

pub returns-clause-pool_keys : goal.returns-clause-pool_keys
returns-clause-pool_keys t c =
    let at = below c.args.entry c.node.inside.height c.node.inside.keys.items
    c.node.inside.kids.items (vec_capacity c.node.inside.keys) (vec_capacity c.node.inside.kids)
    c.args.node.now c.as_slice-2.result.now c.child_of-at.result c.index_mut.result.now
    c.node.invariant c.if-node-eq0.false c.node.view_is c.requires.rising c.as_slice-2.ensures.value
    c.child_of-at.ensures c.index_mut.ensures.value in
    let now = reduced c.args.entry c.node.inside.height c.node.inside.kids.items
    c.child_of-at.result c.index_mut.result.now c.args.node.now c.remove_below-there.new.node at
    c.remove_below-there.ensures.entries in
    let whole = branch_is c.node.inside.height c.settle_kid.new.keys.items
    c.settle_kid.new.kids.items c.if-node-eq0.false in
    omega (
      arith,
      ap (λ b. b.nodes) whole,
      at.nodes,
      now.nodes,
      c.settle_kid.ensures.pool_keys,
      c.remove_below-there.ensures.pool_keys,
    )

pub returns-clause-pool_kids : goal.returns-clause-pool_kids
returns-clause-pool_kids t c =
    let at = below c.args.entry c.node.inside.height c.node.inside.keys.items
    c.node.inside.kids.items (vec_capacity c.node.inside.keys) (vec_capacity c.node.inside.kids)
    c.args.node.now c.as_slice-2.result.now c.child_of-at.result c.index_mut.result.now
    c.node.invariant c.if-node-eq0.false c.node.view_is c.requires.rising c.as_slice-2.ensures.value
    c.child_of-at.ensures c.index_mut.ensures.value in
    let now = reduced c.args.entry c.node.inside.height c.node.inside.kids.items
    c.child_of-at.result c.index_mut.result.now c.args.node.now c.remove_below-there.new.node at
    c.remove_below-there.ensures.entries in
    let whole = branch_is c.node.inside.height c.settle_kid.new.keys.items
    c.settle_kid.new.kids.items c.if-node-eq0.false in
    omega (
      arith,
      ap (λ b. b.inners) whole,
      at.inners,
      now.inners,
      c.settle_kid.ensures.pool_kids,
      c.remove_below-there.ensures.pool_kids,
    )
