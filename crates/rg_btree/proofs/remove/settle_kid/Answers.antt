use Rattle.std.proofs.Common.{◌≡◌, ◌-◌, ◌+◌, ◌*◌, ◌≤◌, suc, take, drop, get_or, sym, ◌∙◌, subst}
use Rattle.std.proofs.Common.{arith}
use Rattle.std.proofs.lemmas.List.{take-append-drop}
use Rattle.std.specs.List.{AllByRecursion}
use Rattle.rg_bulk.specs.Shape.{IsKid, least_fill}
use Rattle.rg_btree.proofs.Kids.{HasEntry}
use Rattle.rg_btree.proofs.Settled.{all_have_entries, each_earlier, each_later, both_fill}
use Rattle.rg_btree.proofs.remove.settle_kid.Goals as goal

pub renew_kid-requires-clause-some : goal.renew_kid-requires-clause-some
renew_kid-requires-clause-some c = all_have_entries (c.args.height - 1) c.args.kids.now.items
    c.args.at c.index.result.now c.requires.within c.index.ensures c.requires.front c.requires.back
    c.requires.short c.fill-fill.ensures.bounds

pub mend_kids-requires-clause-some : goal.mend_kids-requires-clause-some
mend_kids-requires-clause-some c =
    let same : c.renew_kid.new.kids.items ≡ c.args.kids.now.items =
    c.renew_kid.ensures.kids ∙ take-append-drop (suc c.args.at) c.args.kids.now.items in
    subst (AllByRecursion HasEntry) (sym same)
    (all_have_entries (c.args.height - 1) c.args.kids.now.items c.args.at c.index.result.now
    c.requires.within c.index.ensures c.requires.front c.requires.back c.requires.short
    c.fill-fill.ensures.bounds)

pub mend_kids-requires-clause-front : goal.mend_kids-requires-clause-front
mend_kids-requires-clause-front c =
    let same : c.renew_kid.new.kids.items ≡ c.args.kids.now.items =
    c.renew_kid.ensures.kids ∙ take-append-drop (suc c.args.at) c.args.kids.now.items in
    let m = c.max.ensures in
    subst (λ ks. AllByRecursion (IsKid (c.args.height - 1)) (take (c.max.result - 1) ks)) (sym same)
    (each_earlier (IsKid (c.args.height - 1)) c.args.kids.now.items c.args.at (c.max.result - 1)
    (omega arith) c.requires.front)

pub mend_kids-requires-clause-back : goal.mend_kids-requires-clause-back
mend_kids-requires-clause-back c =
    let same : c.renew_kid.new.kids.items ≡ c.args.kids.now.items =
    c.renew_kid.ensures.kids ∙ take-append-drop (suc c.args.at) c.args.kids.now.items in
    let m = c.max.ensures in
    subst
    (λ ks. AllByRecursion (IsKid (c.args.height - 1)) (drop (suc (suc (c.max.result - 1))) ks))
    (sym same)
    (each_later (IsKid (c.args.height - 1)) c.args.kids.now.items (suc c.args.at)
    (suc (suc (c.max.result - 1))) (omega arith) c.requires.back)

pub mend_kids-requires-clause-both : goal.mend_kids-requires-clause-both
mend_kids-requires-clause-both c = λ d.
    let same : c.renew_kid.new.kids.items ≡ c.args.kids.now.items =
    c.renew_kid.ensures.kids ∙ take-append-drop (suc c.args.at) c.args.kids.now.items in
    let m = c.max.ensures in
    subst
    (λ ks. 2 * least_fill (c.args.height - 1)
    ≤ (get_or ks (c.max.result - 1) d).fill + (get_or ks (suc (c.max.result - 1)) d).fill + 1)
    (sym same)
    (both_fill (c.args.height - 1) c.args.kids.now.items c.args.at (c.max.result - 1) d
    c.requires.within (omega (arith, c.requires.several, c.requires.within)) (omega arith)
    (omega arith) c.requires.front c.requires.back c.requires.short)
