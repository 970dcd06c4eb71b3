use Rattle.std.proofs.Common.{◌≡◌, ◌<◌, ◌+◌, ℕ, suc, List, find, slice_get, sym, ◌∙◌, ap, subst}
use Rattle.std.proofs.Common.{vec_capacity, arith}
use Rattle.rg_base.specs.declared.place.Place.{Place}
use Rattle.rg_model.specs.Layout.{is_entry_before}
use Rattle.rg_index.specs.Split.{IsCutBy}
use Rattle.rg_bulk.specs.Branch.{branch_of}
use Rattle.rg_btree.proofs.Below.{below, keys_rise}
use Rattle.rg_btree.proofs.Firsts.{is_from, find_cut, found_below, found_next}
use Rattle.rg_btree.proofs.Kids.{inner_of}
use Rattle.rg_btree.proofs.walk.+first_from.Goals as goal

pub child_of-i-requires-clause-rising : goal.child_of-i-requires-clause-rising
child_of-i-requires-clause-rising t c = keys_rise c.node.inside.height c.node.inside.keys.items
    c.node.inside.kids.items (vec_capacity c.node.inside.keys) (vec_capacity c.node.inside.kids)
    c.args.node.now c.as_slice-2.result.now c.node.invariant c.if-node-eq0.false c.node.view_is
    c.requires c.as_slice-2.ensures.value

pub first_from-requires : goal.first_from-requires
first_from-requires t c =
    let at = below c.args.entry c.node.inside.height c.node.inside.keys.items
    c.node.inside.kids.items (vec_capacity c.node.inside.keys) (vec_capacity c.node.inside.kids)
    c.args.node.now c.as_slice-2.result.now c.child_of-i.result c.index.result.now c.node.invariant
    c.if-node-eq0.false c.node.view_is c.requires c.as_slice-2.ensures.value c.child_of-i.ensures
    c.index.ensures in
    let before : c.args.node.now.height ≡ t = c.decreases in
    let falls : c.index.result.now.height < t =
    omega (arith, at.kid.level, at.height, c.if-node-eq0.false) in
    (falls, at.rising)

pub returns-in-Some : goal.returns-in-Some
returns-in-Some t c =
    let at = below c.args.entry c.node.inside.height c.node.inside.keys.items
    c.node.inside.kids.items (vec_capacity c.node.inside.keys) (vec_capacity c.node.inside.kids)
    c.args.node.now c.as_slice-2.result.now c.child_of-i.result c.index.result.now c.node.invariant
    c.if-node-eq0.false c.node.view_is c.requires c.as_slice-2.ensures.value c.child_of-i.ensures
    c.index.ensures in
    found_below c.args.entry c.node.inside.height c.node.inside.kids.items c.child_of-i.result
    c.index.result.now c.args.node.now at c.in-Some.found c.in-Some.ensures

pub returns-in-None : goal.returns-in-None
returns-in-None t c =
    let at = below c.args.entry c.node.inside.height c.node.inside.keys.items
    c.node.inside.kids.items (vec_capacity c.node.inside.keys) (vec_capacity c.node.inside.kids)
    c.args.node.now c.as_slice-2.result.now c.child_of-i.result c.index.result.now c.node.invariant
    c.if-node-eq0.false c.node.view_is c.requires c.as_slice-2.ensures.value c.child_of-i.ensures
    c.index.ensures in
    let inner = inner_of c.node.inside.height c.node.inside.keys.items c.node.inside.kids.items
    (vec_capacity c.node.inside.keys) (vec_capacity c.node.inside.kids) c.if-node-eq0.false
    c.node.invariant in
    let next : c.child_of-i.result + 1 ≡ suc c.child_of-i.result = omega arith in
    found_next c.args.entry c.node.inside.height c.node.inside.kids.items c.child_of-i.result
    c.index.result.now c.args.node.now at c.entry_at-in-None.result
    (sym c.in-None.is ∙ c.first_from.ensures)
    (c.entry_at-in-None.ensures
    ∙ (λ i. slice_get ((c.as_slice-in-None.ensures.value ∙ inner.keys_are) i) (next i)))

pub returns-then-node-eq0 : goal.returns-then-node-eq0
returns-then-node-eq0 t c =
    let keys = c.node.inside.keys.items in
    let kids = c.node.inside.kids.items in
    let leaf : keys ≡ c.args.node.now.entries =
    sym (ap (λ (h : ℕ). (branch_of h keys kids).entries) c.if-node-eq0.true)
    ∙ ap (λ b. b.entries) c.node.view_is in
    let cut = subst
    (λ (ks : List (ℕ × Place)). IsCutBy (λ e. is_entry_before e c.args.entry) ks
    c.count_before-at.result) c.as_slice.ensures.value c.count_before-at.ensures in
    c.entry_at.ensures
    ∙ ap (λ (ks : List (ℕ × Place)). slice_get ks c.count_before-at.result)
    c.as_slice-then-node-eq0.ensures.value
    ∙ sym (find_cut c.args.entry keys c.count_before-at.result cut)
    ∙ ap (find (is_from c.args.entry)) leaf
