use Rattle.std.proofs.Common.{◌≡◌, ◌<◌, ◌-◌, ◌+◌, ◌++◌, [], length, take, drop, get_or, sym, ◌∙◌}
use Rattle.std.proofs.Common.{ap, subst, vec_capacity, arith}
use Rattle.std.specs.Prelude.{nat_le}
use Rattle.std.proofs.lemmas.List.{append-nil, take_all}
use Rattle.rg_base.proofs.Each.{Each-at, Each-take, Each-drop}
use Rattle.rg_index.specs.Entries.{IsRising, entries_within}
use Rattle.rg_index.specs.Split.{IsCutBy}
use Rattle.rg_bulk.specs.Branch.{joined}
use Rattle.rg_bulk.specs.Shape.{IsKid}
use Rattle.rg_btree.proofs.Below.{keys_rise}
use Rattle.rg_btree.proofs.Even.{height_of}
use Rattle.rg_btree.proofs.Kids.{inner_of, branch_is, kids_have_entries}
use Rattle.rg_btree.proofs.Ranges.{within_kids, kid_rises, rising_some}
use Rattle.rg_btree.proofs.walk.+collect.Goals as goal

pub count_below-requires : goal.count_below-requires
count_below-requires t c = keys_rise c.node.inside.height c.node.inside.keys.items
    c.node.inside.kids.items (vec_capacity c.node.inside.keys) (vec_capacity c.node.inside.kids)
    c.args.node.now c.as_slice-2.result.now c.node.invariant c.if-node-eq0.false c.node.view_is
    c.requires c.as_slice-2.ensures.value

pub count_up_to-end-requires : goal.count_up_to-end-requires
count_up_to-end-requires t c = keys_rise c.node.inside.height c.node.inside.keys.items
    c.node.inside.kids.items (vec_capacity c.node.inside.keys) (vec_capacity c.node.inside.kids)
    c.args.node.now c.as_slice-3.result.now c.node.invariant c.if-node-eq0.false c.node.view_is
    c.requires c.as_slice-3.ensures.value

pub returns-then-end-first : goal.returns-then-end-first
returns-then-end-first t c =
    let inner = inner_of c.node.inside.height c.node.inside.keys.items c.node.inside.kids.items
    (vec_capacity c.node.inside.keys) (vec_capacity c.node.inside.kids) c.if-node-eq0.false
    c.node.invariant in
    let all : joined c.node.inside.kids.items ≡ c.args.node.now.entries = ap (λ b. b.entries)
    (sym
    (branch_is c.node.inside.height c.node.inside.keys.items c.node.inside.kids.items
    c.if-node-eq0.false) ∙ c.node.view_is) in
    let rises : IsRising (joined c.node.inside.kids.items) = subst IsRising (sym all) c.requires in
    let some = kids_have_entries (c.node.inside.height - 1) c.node.inside.kids.items inner.each in
    let low = subst (λ ks. IsCutBy (λ e. nat_le (e.0 + 1) c.args.lo) ks c.count_below.result)
    (c.as_slice-2.ensures.value ∙ inner.keys_are) c.count_below.ensures in
    let high = subst (λ ks. IsCutBy (λ e. nat_le e.0 c.args.hi) ks c.count_up_to-end.result)
    (c.as_slice-3.ensures.value ∙ inner.keys_are) c.count_up_to-end.ensures in
    let m = c.max-first.ensures in
    let within = within_kids c.args.lo c.args.hi c.node.inside.kids.items c.count_below.result
    c.count_up_to-end.result (c.max-first.result - 1) some rises low high (λ there. omega arith) in
    let none : c.count_up_to-end.result - (c.max-first.result - 1) ≡ 0 =
    omega (arith, c.if-end-first.true) in
    let nothing : entries_within c.args.lo c.args.hi c.args.node.now.entries ≡ [] =
    ap (entries_within c.args.lo c.args.hi) (sym all) ∙ within
    ∙ ap
    (λ n. entries_within c.args.lo c.args.hi
    (joined (take n (drop (c.max-first.result - 1) c.node.inside.kids.items)))) none in
    sym (ap (λ es. c.args.found.now.items ++ es) nothing ∙ append-nil c.args.found.now.items)

pub collect-requires : goal.collect-requires
collect-requires t c =
    let inner = inner_of c.node.inside.height c.node.inside.keys.items c.node.inside.kids.items
    (vec_capacity c.node.inside.keys) (vec_capacity c.node.inside.kids) c.if-node-eq0.false
    c.node.invariant in
    let all : joined c.node.inside.kids.items ≡ c.args.node.now.entries = ap (λ b. b.entries)
    (sym
    (branch_is c.node.inside.height c.node.inside.keys.items c.node.inside.kids.items
    c.if-node-eq0.false) ∙ c.node.view_is) in
    let rises : IsRising (joined c.node.inside.kids.items) = subst IsRising (sym all) c.requires in
    let n = c.count_up_to-end.result - (c.max-first.result - 1) in
    let first = c.max-first.result - 1 in
    let mid : take n (drop first c.deref.result.now)
    ≡ take n (drop first c.node.inside.kids.items) =
    ap (λ ks. take n (drop first ks)) c.deref.ensures.value in
    let low : c.loop-kid.kid-index < length (take n (drop first c.node.inside.kids.items)) =
    subst (λ ks. c.loop-kid.kid-index < length ks) mid c.loop-kid-test.true in
    let is : c.kid-item.result
    ≡ get_or (take n (drop first c.node.inside.kids.items)) c.loop-kid.kid-index c.kid-item.result =
    c.kid-item.is ∙ ap (λ ks. get_or ks c.loop-kid.kid-index c.kid-item.result) mid in
    let each =
    Each-take (IsKid (c.node.inside.height - 1)) n (drop first c.node.inside.kids.items)
    (Each-drop (IsKid (c.node.inside.height - 1)) first c.node.inside.kids.items inner.each) in
    let level =
    (subst (IsKid (c.node.inside.height - 1)) (sym is)
    (Each-at (IsKid (c.node.inside.height - 1)) (take n (drop first c.node.inside.kids.items))
    c.loop-kid.kid-index c.kid-item.result low each)).level in
    let top = height_of c.node.inside.height c.node.inside.keys.items c.node.inside.kids.items
    c.args.node.now c.node.view_is in
    let before : c.args.node.now.height ≡ t = c.decreases in
    let falls : c.kid-item.result.height < t = omega (arith, c.if-node-eq0.false) in (
      falls,
      subst (λ b. IsRising b.entries) (sym is)
          (kid_rises (take n (drop first c.node.inside.kids.items)) c.loop-kid.kid-index
          c.kid-item.result low (rising_some first n c.node.inside.kids.items rises)),
    )

pub returns : goal.returns
returns t c =
    let inner = inner_of c.node.inside.height c.node.inside.keys.items c.node.inside.kids.items
    (vec_capacity c.node.inside.keys) (vec_capacity c.node.inside.kids) c.if-node-eq0.false
    c.node.invariant in
    let all : joined c.node.inside.kids.items ≡ c.args.node.now.entries = ap (λ b. b.entries)
    (sym
    (branch_is c.node.inside.height c.node.inside.keys.items c.node.inside.kids.items
    c.if-node-eq0.false) ∙ c.node.view_is) in
    let rises : IsRising (joined c.node.inside.kids.items) = subst IsRising (sym all) c.requires in
    let some = kids_have_entries (c.node.inside.height - 1) c.node.inside.kids.items inner.each in
    let low = subst (λ ks. IsCutBy (λ e. nat_le (e.0 + 1) c.args.lo) ks c.count_below.result)
    (c.as_slice-2.ensures.value ∙ inner.keys_are) c.count_below.ensures in
    let high = subst (λ ks. IsCutBy (λ e. nat_le e.0 c.args.hi) ks c.count_up_to-end.result)
    (c.as_slice-3.ensures.value ∙ inner.keys_are) c.count_up_to-end.ensures in
    let m = c.max-first.ensures in
    let within = within_kids c.args.lo c.args.hi c.node.inside.kids.items c.count_below.result
    c.count_up_to-end.result (c.max-first.result - 1) some rises low high (λ there. omega arith) in
    let n = c.count_up_to-end.result - (c.max-first.result - 1) in
    let first = c.max-first.result - 1 in
    c.loop-kid.invariant
    ∙ ap (λ ks. c.args.found.now.items ++ entries_within c.args.lo c.args.hi (joined ks))
    (take_all c.loop-kid.kid-index (take n (drop first c.deref.result.now)) c.loop-kid-test.false
    ∙ ap (λ ks. take n (drop first ks)) c.deref.ensures.value)
    ∙ ap (λ es. c.args.found.now.items ++ es)
    (sym within ∙ ap (entries_within c.args.lo c.args.hi) all)
