use Rattle.std.proofs.Common.{◌≡◌, ◌<◌, ◌-◌, suc, ℕ, ◌∷◌, take}
use Rattle.std.proofs.Common.{drop, sym, ◌∙◌, ap, subst, vec_capacity, arith}
use Rattle.std.specs.Option.{option_to_list}
use Rattle.rg_bulk.specs.Branch.{branch_of}
use Rattle.std.specs.List.{AllByRecursion}
use Rattle.rg_bulk.specs.Shape.{IsKid}
use Rattle.rg_btree.specs.Child.{firsts}
use Rattle.rg_btree.proofs.Below.{below, renewed, keys_rise, all_added, split_is, still_full}
use Rattle.rg_btree.proofs.Below.{at_level}
use Rattle.rg_btree.proofs.Kids.{HasEntry, inner_of, node_of, branch_is, kids_have_entries}
use Rattle.rg_btree.proofs.Kids.{Each-set, take_set, drop_set, firsts-take, firsts-drop}
use Rattle.rg_btree.proofs.Kids.{at_most_one}
use Rattle.rg_btree.proofs.add.+add_below.Goals as goal

above : (h : ℕ) → (h ≡ 0 → ⊥) → suc (h - 1) ≡ h
above h high = omega arith

pub child_of-at-requires-clause-rising : goal.child_of-at-requires-clause-rising
child_of-at-requires-clause-rising t c = keys_rise c.node.inside.height c.node.inside.keys.items
    c.node.inside.kids.items (vec_capacity c.node.inside.keys) (vec_capacity c.node.inside.kids)
    c.args.node.now c.as_slice.result.now c.node.invariant c.if-node-eq0.false c.node.view_is
    c.requires.rising c.as_slice.ensures.value

pub add_below-right-requires : goal.add_below-right-requires
add_below-right-requires t c =
    let at = below c.args.entry c.node.inside.height c.node.inside.keys.items
    c.node.inside.kids.items (vec_capacity c.node.inside.keys) (vec_capacity c.node.inside.kids)
    c.args.node.now c.as_slice.result.now c.child_of-at.result c.index_mut.result.now
    c.node.invariant c.if-node-eq0.false c.node.view_is c.requires.rising c.as_slice.ensures.value
    c.child_of-at.ensures c.index_mut.ensures.value in
    let low : c.index_mut.result.now.height < c.args.node.now.height =
    omega (arith, at.kid.level, at.height, c.if-node-eq0.false) in
    let before : c.args.node.now.height ≡ t = c.decreases in
    let falls : c.index_mut.result.now.height < t = omega arith in
    (falls, (at.rising, (sym at.has ∙ c.requires.absent, (omega arith, omega arith))))

pub renew_kid-requires-clause-front : goal.renew_kid-requires-clause-front
renew_kid-requires-clause-front t c =
    let inner = inner_of c.node.inside.height c.node.inside.keys.items c.node.inside.kids.items
    (vec_capacity c.node.inside.keys) (vec_capacity c.node.inside.kids) c.if-node-eq0.false
    c.node.invariant in
    ap (take c.child_of-at.result) inner.keys_are
    ∙ firsts-take c.child_of-at.result c.node.inside.kids.items
    ∙ ap firsts
    (sym (take_set c.node.inside.kids.items c.child_of-at.result c.add_below-right.new.node))

pub renew_kid-requires-clause-back : goal.renew_kid-requires-clause-back
renew_kid-requires-clause-back t c =
    let inner = inner_of c.node.inside.height c.node.inside.keys.items c.node.inside.kids.items
    (vec_capacity c.node.inside.keys) (vec_capacity c.node.inside.kids) c.if-node-eq0.false
    c.node.invariant in
    ap (drop (suc c.child_of-at.result)) inner.keys_are
    ∙ firsts-drop (suc c.child_of-at.result) c.node.inside.kids.items
    ∙ ap firsts
    (sym (drop_set c.node.inside.kids.items c.child_of-at.result c.add_below-right.new.node))

pub renew_kid-requires-clause-some : goal.renew_kid-requires-clause-some
renew_kid-requires-clause-some t c =
    let at = below c.args.entry c.node.inside.height c.node.inside.keys.items
    c.node.inside.kids.items (vec_capacity c.node.inside.keys) (vec_capacity c.node.inside.kids)
    c.args.node.now c.as_slice.result.now c.child_of-at.result c.index_mut.result.now
    c.node.invariant c.if-node-eq0.false c.node.view_is c.requires.rising c.as_slice.ensures.value
    c.child_of-at.ensures c.index_mut.ensures.value in
    let each = subst
    (λ k. AllByRecursion (IsKid k)
    (c.add_below-right.new.node ∷ option_to_list c.add_below-right.result))
    at.kid.level
    (c.add_below-right.ensures.kept
    (subst (λ k. IsKid k c.index_mut.result.now) (sym at.kid.level) at.kid)) in
    Each-set HasEntry c.node.inside.kids.items c.child_of-at.result c.add_below-right.new.node
    (kids_have_entries (c.node.inside.height - 1)
    (c.add_below-right.new.node ∷ option_to_list c.add_below-right.result) each).0
    (kids_have_entries (c.node.inside.height - 1) c.node.inside.kids.items at.each)

pub split_inner-requires-clause-spare_keys : goal.split_inner-requires-clause-spare_keys
split_inner-requires-clause-spare_keys t c =
    let at = below c.args.entry c.node.inside.height c.node.inside.keys.items
    c.node.inside.kids.items (vec_capacity c.node.inside.keys) (vec_capacity c.node.inside.kids)
    c.args.node.now c.as_slice.result.now c.child_of-at.result c.index_mut.result.now
    c.node.invariant c.if-node-eq0.false c.node.view_is c.requires.rising c.as_slice.ensures.value
    c.child_of-at.ensures c.index_mut.ensures.value in
    omega (arith, at.kid.level, at.height, c.if-node-eq0.false, c.add_below-right.ensures.few_keys)

pub split_inner-requires-clause-spare_kids : goal.split_inner-requires-clause-spare_kids
split_inner-requires-clause-spare_kids t c =
    let at = below c.args.entry c.node.inside.height c.node.inside.keys.items
    c.node.inside.kids.items (vec_capacity c.node.inside.keys) (vec_capacity c.node.inside.kids)
    c.args.node.now c.as_slice.result.now c.child_of-at.result c.index_mut.result.now
    c.node.invariant c.if-node-eq0.false c.node.view_is c.requires.rising c.as_slice.ensures.value
    c.child_of-at.ensures c.index_mut.ensures.value in
    omega (arith, at.kid.level, at.height, c.if-node-eq0.false, c.add_below-right.ensures.few_kids)

pub invariant_of-node-2 : goal.invariant_of-node-2
invariant_of-node-2 t c =
    let at = below c.args.entry c.node.inside.height c.node.inside.keys.items
    c.node.inside.kids.items (vec_capacity c.node.inside.keys) (vec_capacity c.node.inside.kids)
    c.args.node.now c.as_slice.result.now c.child_of-at.result c.index_mut.result.now
    c.node.invariant c.if-node-eq0.false c.node.view_is c.requires.rising c.as_slice.ensures.value
    c.child_of-at.ensures c.index_mut.ensures.value in
    let each = subst
    (λ k. AllByRecursion (IsKid k)
    (c.add_below-right.new.node ∷ option_to_list c.add_below-right.result))
    at.kid.level
    (c.add_below-right.ensures.kept
    (subst (λ k. IsKid k c.index_mut.result.now) (sym at.kid.level) at.kid)) in
    let now = renewed c.args.entry c.node.inside.height c.node.inside.kids.items
    c.child_of-at.result c.index_mut.result.now c.args.node.now c.add_below-right.new.node
    (option_to_list c.add_below-right.result) c.renew_kid.new.kids.items at each
    c.renew_kid.ensures.kids in
    let few = at_most_one c.add_below-right.result in
    let inner = inner_of c.node.inside.height c.node.inside.keys.items c.node.inside.kids.items
    (vec_capacity c.node.inside.keys) (vec_capacity c.node.inside.kids) c.if-node-eq0.false
    c.node.invariant in
    let most = inner.most in
    let count = now.count in
    let whole = branch_is c.node.inside.height c.split_inner.new.keys.items
    c.split_inner.new.kids.items c.if-node-eq0.false in
    let parts = split_is (c.node.inside.height - 1) c.renew_kid.new.kids.items
    c.split_inner.new.kids.items c.split_inner.result
    (branch_of c.node.inside.height c.split_inner.new.keys.items c.split_inner.new.kids.items)
    now.each (omega (arith, c.child_of-at.ensures.within, at.low)) (omega arith) whole
    c.split_inner.ensures.halves in
    let level = at.height in
    node_of c.node.inside.height c.split_inner.new.keys.items c.split_inner.new.kids.items
    (vec_capacity c.split_inner.new.keys) (vec_capacity c.split_inner.new.kids) c.if-node-eq0.false
    (record {
      keys_are = c.split_inner.ensures.keys_are;
      fewest = parts.some;
      most = c.split_inner.ensures.most;
      each = parts.each;
      key_space = c.split_inner.ensures.key_space;
      kid_space = c.split_inner.ensures.kid_space;
    })

pub returns-clause-entries : goal.returns-clause-entries
returns-clause-entries t c =
    let at = below c.args.entry c.node.inside.height c.node.inside.keys.items
    c.node.inside.kids.items (vec_capacity c.node.inside.keys) (vec_capacity c.node.inside.kids)
    c.args.node.now c.as_slice.result.now c.child_of-at.result c.index_mut.result.now
    c.node.invariant c.if-node-eq0.false c.node.view_is c.requires.rising c.as_slice.ensures.value
    c.child_of-at.ensures c.index_mut.ensures.value in
    let each = subst
    (λ k. AllByRecursion (IsKid k)
    (c.add_below-right.new.node ∷ option_to_list c.add_below-right.result))
    at.kid.level
    (c.add_below-right.ensures.kept
    (subst (λ k. IsKid k c.index_mut.result.now) (sym at.kid.level) at.kid)) in
    let now = renewed c.args.entry c.node.inside.height c.node.inside.kids.items
    c.child_of-at.result c.index_mut.result.now c.args.node.now c.add_below-right.new.node
    (option_to_list c.add_below-right.result) c.renew_kid.new.kids.items at each
    c.renew_kid.ensures.kids in
    let few = at_most_one c.add_below-right.result in
    let inner = inner_of c.node.inside.height c.node.inside.keys.items c.node.inside.kids.items
    (vec_capacity c.node.inside.keys) (vec_capacity c.node.inside.kids) c.if-node-eq0.false
    c.node.invariant in
    let most = inner.most in
    let count = now.count in
    let whole = branch_is c.node.inside.height c.split_inner.new.keys.items
    c.split_inner.new.kids.items c.if-node-eq0.false in
    let parts = split_is (c.node.inside.height - 1) c.renew_kid.new.kids.items
    c.split_inner.new.kids.items c.split_inner.result
    (branch_of c.node.inside.height c.split_inner.new.keys.items c.split_inner.new.kids.items)
    now.each (omega (arith, c.child_of-at.ensures.within, at.low)) (omega arith) whole
    c.split_inner.ensures.halves in
    let level = at.height in
    parts.entries
    ∙ all_added c.args.entry c.node.inside.height c.node.inside.kids.items c.child_of-at.result
    c.index_mut.result.now c.args.node.now c.add_below-right.new.node
    (option_to_list c.add_below-right.result) c.renew_kid.new.kids.items at now
    c.add_below-right.ensures.entries

pub returns-clause-fill : goal.returns-clause-fill
returns-clause-fill t c =
    let at = below c.args.entry c.node.inside.height c.node.inside.keys.items
    c.node.inside.kids.items (vec_capacity c.node.inside.keys) (vec_capacity c.node.inside.kids)
    c.args.node.now c.as_slice.result.now c.child_of-at.result c.index_mut.result.now
    c.node.invariant c.if-node-eq0.false c.node.view_is c.requires.rising c.as_slice.ensures.value
    c.child_of-at.ensures c.index_mut.ensures.value in
    let each = subst
    (λ k. AllByRecursion (IsKid k)
    (c.add_below-right.new.node ∷ option_to_list c.add_below-right.result))
    at.kid.level
    (c.add_below-right.ensures.kept
    (subst (λ k. IsKid k c.index_mut.result.now) (sym at.kid.level) at.kid)) in
    let now = renewed c.args.entry c.node.inside.height c.node.inside.kids.items
    c.child_of-at.result c.index_mut.result.now c.args.node.now c.add_below-right.new.node
    (option_to_list c.add_below-right.result) c.renew_kid.new.kids.items at each
    c.renew_kid.ensures.kids in
    let few = at_most_one c.add_below-right.result in
    let inner = inner_of c.node.inside.height c.node.inside.keys.items c.node.inside.kids.items
    (vec_capacity c.node.inside.keys) (vec_capacity c.node.inside.kids) c.if-node-eq0.false
    c.node.invariant in
    let most = inner.most in
    let count = now.count in
    let whole = branch_is c.node.inside.height c.split_inner.new.keys.items
    c.split_inner.new.kids.items c.if-node-eq0.false in
    let parts = split_is (c.node.inside.height - 1) c.renew_kid.new.kids.items
    c.split_inner.new.kids.items c.split_inner.result
    (branch_of c.node.inside.height c.split_inner.new.keys.items c.split_inner.new.kids.items)
    now.each (omega (arith, c.child_of-at.ensures.within, at.low)) (omega arith) whole
    c.split_inner.ensures.halves in
    let level = at.height in
    λ none. omega (arith, parts.fill none, at.fill)

pub returns-clause-kept : goal.returns-clause-kept
returns-clause-kept t c =
    let at = below c.args.entry c.node.inside.height c.node.inside.keys.items
    c.node.inside.kids.items (vec_capacity c.node.inside.keys) (vec_capacity c.node.inside.kids)
    c.args.node.now c.as_slice.result.now c.child_of-at.result c.index_mut.result.now
    c.node.invariant c.if-node-eq0.false c.node.view_is c.requires.rising c.as_slice.ensures.value
    c.child_of-at.ensures c.index_mut.ensures.value in
    let each = subst
    (λ k. AllByRecursion (IsKid k)
    (c.add_below-right.new.node ∷ option_to_list c.add_below-right.result))
    at.kid.level
    (c.add_below-right.ensures.kept
    (subst (λ k. IsKid k c.index_mut.result.now) (sym at.kid.level) at.kid)) in
    let now = renewed c.args.entry c.node.inside.height c.node.inside.kids.items
    c.child_of-at.result c.index_mut.result.now c.args.node.now c.add_below-right.new.node
    (option_to_list c.add_below-right.result) c.renew_kid.new.kids.items at each
    c.renew_kid.ensures.kids in
    let few = at_most_one c.add_below-right.result in
    let inner = inner_of c.node.inside.height c.node.inside.keys.items c.node.inside.kids.items
    (vec_capacity c.node.inside.keys) (vec_capacity c.node.inside.kids) c.if-node-eq0.false
    c.node.invariant in
    let most = inner.most in
    let count = now.count in
    let whole = branch_is c.node.inside.height c.split_inner.new.keys.items
    c.split_inner.new.kids.items c.if-node-eq0.false in
    let parts = split_is (c.node.inside.height - 1) c.renew_kid.new.kids.items
    c.split_inner.new.kids.items c.split_inner.result
    (branch_of c.node.inside.height c.split_inner.new.keys.items c.split_inner.new.kids.items)
    now.each (omega (arith, c.child_of-at.ensures.within, at.low)) (omega arith) whole
    c.split_inner.ensures.halves in
    let level = at.height in
    λ is. at_level c.node.inside.height c.args.node.now
    (branch_of c.node.inside.height c.split_inner.new.keys.items c.split_inner.new.kids.items
    ∷ option_to_list c.split_inner.result) c.if-node-eq0.false at.height
    (parts.kept
    (still_full c.node.inside.height c.args.node.now c.node.inside.kids.items
    c.renew_kid.new.kids.items c.if-node-eq0.false at.height at.fill (omega arith) is))

pub returns-clause-split : goal.returns-clause-split
returns-clause-split t c =
    let at = below c.args.entry c.node.inside.height c.node.inside.keys.items
    c.node.inside.kids.items (vec_capacity c.node.inside.keys) (vec_capacity c.node.inside.kids)
    c.args.node.now c.as_slice.result.now c.child_of-at.result c.index_mut.result.now
    c.node.invariant c.if-node-eq0.false c.node.view_is c.requires.rising c.as_slice.ensures.value
    c.child_of-at.ensures c.index_mut.ensures.value in
    let each = subst
    (λ k. AllByRecursion (IsKid k)
    (c.add_below-right.new.node ∷ option_to_list c.add_below-right.result))
    at.kid.level
    (c.add_below-right.ensures.kept
    (subst (λ k. IsKid k c.index_mut.result.now) (sym at.kid.level) at.kid)) in
    let now = renewed c.args.entry c.node.inside.height c.node.inside.kids.items
    c.child_of-at.result c.index_mut.result.now c.args.node.now c.add_below-right.new.node
    (option_to_list c.add_below-right.result) c.renew_kid.new.kids.items at each
    c.renew_kid.ensures.kids in
    let few = at_most_one c.add_below-right.result in
    let inner = inner_of c.node.inside.height c.node.inside.keys.items c.node.inside.kids.items
    (vec_capacity c.node.inside.keys) (vec_capacity c.node.inside.kids) c.if-node-eq0.false
    c.node.invariant in
    let most = inner.most in
    let count = now.count in
    let whole = branch_is c.node.inside.height c.split_inner.new.keys.items
    c.split_inner.new.kids.items c.if-node-eq0.false in
    let parts = split_is (c.node.inside.height - 1) c.renew_kid.new.kids.items
    c.split_inner.new.kids.items c.split_inner.result
    (branch_of c.node.inside.height c.split_inner.new.keys.items c.split_inner.new.kids.items)
    now.each (omega (arith, c.child_of-at.ensures.within, at.low)) (omega arith) whole
    c.split_inner.ensures.halves in
    let level = at.height in
    λ some. at_level c.node.inside.height c.args.node.now
    (branch_of c.node.inside.height c.split_inner.new.keys.items c.split_inner.new.kids.items
    ∷ option_to_list c.split_inner.result) c.if-node-eq0.false at.height (parts.split some)

pub returns-clause-pool_keys : goal.returns-clause-pool_keys
returns-clause-pool_keys t c =
    let at = below c.args.entry c.node.inside.height c.node.inside.keys.items
    c.node.inside.kids.items (vec_capacity c.node.inside.keys) (vec_capacity c.node.inside.kids)
    c.args.node.now c.as_slice.result.now c.child_of-at.result c.index_mut.result.now
    c.node.invariant c.if-node-eq0.false c.node.view_is c.requires.rising c.as_slice.ensures.value
    c.child_of-at.ensures c.index_mut.ensures.value in
    let each = subst
    (λ k. AllByRecursion (IsKid k)
    (c.add_below-right.new.node ∷ option_to_list c.add_below-right.result))
    at.kid.level
    (c.add_below-right.ensures.kept
    (subst (λ k. IsKid k c.index_mut.result.now) (sym at.kid.level) at.kid)) in
    let now = renewed c.args.entry c.node.inside.height c.node.inside.kids.items
    c.child_of-at.result c.index_mut.result.now c.args.node.now c.add_below-right.new.node
    (option_to_list c.add_below-right.result) c.renew_kid.new.kids.items at each
    c.renew_kid.ensures.kids in
    let few = at_most_one c.add_below-right.result in
    let inner = inner_of c.node.inside.height c.node.inside.keys.items c.node.inside.kids.items
    (vec_capacity c.node.inside.keys) (vec_capacity c.node.inside.kids) c.if-node-eq0.false
    c.node.invariant in
    let most = inner.most in
    let count = now.count in
    let whole = branch_is c.node.inside.height c.split_inner.new.keys.items
    c.split_inner.new.kids.items c.if-node-eq0.false in
    let parts = split_is (c.node.inside.height - 1) c.renew_kid.new.kids.items
    c.split_inner.new.kids.items c.split_inner.result
    (branch_of c.node.inside.height c.split_inner.new.keys.items c.split_inner.new.kids.items)
    now.each (omega (arith, c.child_of-at.ensures.within, at.low)) (omega arith) whole
    c.split_inner.ensures.halves in
    let level = at.height in
    omega (
      arith,
      parts.nodes,
      now.nodes,
      at.nodes,
      c.add_below-right.ensures.pool_keys,
      c.split_inner.ensures.pool_keys,
    )

pub returns-clause-pool_kids : goal.returns-clause-pool_kids
returns-clause-pool_kids t c =
    let at = below c.args.entry c.node.inside.height c.node.inside.keys.items
    c.node.inside.kids.items (vec_capacity c.node.inside.keys) (vec_capacity c.node.inside.kids)
    c.args.node.now c.as_slice.result.now c.child_of-at.result c.index_mut.result.now
    c.node.invariant c.if-node-eq0.false c.node.view_is c.requires.rising c.as_slice.ensures.value
    c.child_of-at.ensures c.index_mut.ensures.value in
    let each = subst
    (λ k. AllByRecursion (IsKid k)
    (c.add_below-right.new.node ∷ option_to_list c.add_below-right.result))
    at.kid.level
    (c.add_below-right.ensures.kept
    (subst (λ k. IsKid k c.index_mut.result.now) (sym at.kid.level) at.kid)) in
    let now = renewed c.args.entry c.node.inside.height c.node.inside.kids.items
    c.child_of-at.result c.index_mut.result.now c.args.node.now c.add_below-right.new.node
    (option_to_list c.add_below-right.result) c.renew_kid.new.kids.items at each
    c.renew_kid.ensures.kids in
    let few = at_most_one c.add_below-right.result in
    let inner = inner_of c.node.inside.height c.node.inside.keys.items c.node.inside.kids.items
    (vec_capacity c.node.inside.keys) (vec_capacity c.node.inside.kids) c.if-node-eq0.false
    c.node.invariant in
    let most = inner.most in
    let count = now.count in
    let whole = branch_is c.node.inside.height c.split_inner.new.keys.items
    c.split_inner.new.kids.items c.if-node-eq0.false in
    let parts = split_is (c.node.inside.height - 1) c.renew_kid.new.kids.items
    c.split_inner.new.kids.items c.split_inner.result
    (branch_of c.node.inside.height c.split_inner.new.keys.items c.split_inner.new.kids.items)
    now.each (omega (arith, c.child_of-at.ensures.within, at.low)) (omega arith) whole
    c.split_inner.ensures.halves in
    let level = at.height in
    omega (
      arith,
      parts.inners,
      now.inners,
      at.inners,
      c.add_below-right.ensures.pool_kids,
      c.split_inner.ensures.pool_kids,
    )

pub returns-clause-few_keys : goal.returns-clause-few_keys
returns-clause-few_keys t c =
    let at = below c.args.entry c.node.inside.height c.node.inside.keys.items
    c.node.inside.kids.items (vec_capacity c.node.inside.keys) (vec_capacity c.node.inside.kids)
    c.args.node.now c.as_slice.result.now c.child_of-at.result c.index_mut.result.now
    c.node.invariant c.if-node-eq0.false c.node.view_is c.requires.rising c.as_slice.ensures.value
    c.child_of-at.ensures c.index_mut.ensures.value in
    let each = subst
    (λ k. AllByRecursion (IsKid k)
    (c.add_below-right.new.node ∷ option_to_list c.add_below-right.result))
    at.kid.level
    (c.add_below-right.ensures.kept
    (subst (λ k. IsKid k c.index_mut.result.now) (sym at.kid.level) at.kid)) in
    let now = renewed c.args.entry c.node.inside.height c.node.inside.kids.items
    c.child_of-at.result c.index_mut.result.now c.args.node.now c.add_below-right.new.node
    (option_to_list c.add_below-right.result) c.renew_kid.new.kids.items at each
    c.renew_kid.ensures.kids in
    let few = at_most_one c.add_below-right.result in
    let inner = inner_of c.node.inside.height c.node.inside.keys.items c.node.inside.kids.items
    (vec_capacity c.node.inside.keys) (vec_capacity c.node.inside.kids) c.if-node-eq0.false
    c.node.invariant in
    let most = inner.most in
    let count = now.count in
    let whole = branch_is c.node.inside.height c.split_inner.new.keys.items
    c.split_inner.new.kids.items c.if-node-eq0.false in
    let parts = split_is (c.node.inside.height - 1) c.renew_kid.new.kids.items
    c.split_inner.new.kids.items c.split_inner.result
    (branch_of c.node.inside.height c.split_inner.new.keys.items c.split_inner.new.kids.items)
    now.each (omega (arith, c.child_of-at.ensures.within, at.low)) (omega arith) whole
    c.split_inner.ensures.halves in
    let level = at.height in
    let one = at_most_one c.split_inner.result in
    omega (
      arith,
      at.kid.level,
      c.if-node-eq0.false,
      c.add_below-right.ensures.few_keys,
      c.split_inner.ensures.pool_keys,
    )

pub returns-clause-few_kids : goal.returns-clause-few_kids
returns-clause-few_kids t c =
    let at = below c.args.entry c.node.inside.height c.node.inside.keys.items
    c.node.inside.kids.items (vec_capacity c.node.inside.keys) (vec_capacity c.node.inside.kids)
    c.args.node.now c.as_slice.result.now c.child_of-at.result c.index_mut.result.now
    c.node.invariant c.if-node-eq0.false c.node.view_is c.requires.rising c.as_slice.ensures.value
    c.child_of-at.ensures c.index_mut.ensures.value in
    let each = subst
    (λ k. AllByRecursion (IsKid k)
    (c.add_below-right.new.node ∷ option_to_list c.add_below-right.result))
    at.kid.level
    (c.add_below-right.ensures.kept
    (subst (λ k. IsKid k c.index_mut.result.now) (sym at.kid.level) at.kid)) in
    let now = renewed c.args.entry c.node.inside.height c.node.inside.kids.items
    c.child_of-at.result c.index_mut.result.now c.args.node.now c.add_below-right.new.node
    (option_to_list c.add_below-right.result) c.renew_kid.new.kids.items at each
    c.renew_kid.ensures.kids in
    let few = at_most_one c.add_below-right.result in
    let inner = inner_of c.node.inside.height c.node.inside.keys.items c.node.inside.kids.items
    (vec_capacity c.node.inside.keys) (vec_capacity c.node.inside.kids) c.if-node-eq0.false
    c.node.invariant in
    let most = inner.most in
    let count = now.count in
    let whole = branch_is c.node.inside.height c.split_inner.new.keys.items
    c.split_inner.new.kids.items c.if-node-eq0.false in
    let parts = split_is (c.node.inside.height - 1) c.renew_kid.new.kids.items
    c.split_inner.new.kids.items c.split_inner.result
    (branch_of c.node.inside.height c.split_inner.new.keys.items c.split_inner.new.kids.items)
    now.each (omega (arith, c.child_of-at.ensures.within, at.low)) (omega arith) whole
    c.split_inner.ensures.halves in
    let level = at.height in
    let one = at_most_one c.split_inner.result in
    omega (
      arith,
      at.kid.level,
      c.if-node-eq0.false,
      c.add_below-right.ensures.few_kids,
      c.split_inner.ensures.pool_kids,
    )
