use Rattle.std.proofs.Common.{length, arith, ◌∙◌, ap, sym, List, ℕ, take}
use Rattle.std.proofs.lemmas.List.{length-take-le}
use Rattle.rg_page.specs.Stretches.{total}
use Rattle.rg_page.proofs.Buffer.{seen_count, seen_fits, seen_offset}
use Rattle.rg_page.proofs.areas.Areas.offset.Goals as goal

pub slice_bounds-sum-end : goal.slice_bounds-sum-end
slice_bounds-sum-end c =
    let count = seen_count _ _ _ _ c.self.invariant c.self.view_is in
    sym (length-take-le c.args.i c.deref.result.now
    (omega (arith, count, c.requires, ap (λ (xs : List ℕ). length xs) c.deref.ensures.value)))

pub sum-requires : goal.sum-requires
sum-requires c =
    rw c.deref.ensures.value (seen_fits _ _ _ _ c.self.invariant c.self.view_is c.args.i)

pub returns-clause-stretches : goal.returns-clause-stretches
returns-clause-stretches c =
    c.sum.ensures ∙ ap (λ (xs : List ℕ). total (take c.args.i xs)) c.deref.ensures.value
    ∙ sym (seen_offset _ _ _ _ c.self.invariant c.self.view_is c.args.i)

pub returns-clause-within : goal.returns-clause-within
returns-clause-within c =
    let e = ap (λ (xs : List ℕ). total (take c.args.i xs)) c.deref.ensures.value in
    omega (arith, c.sum.ensures, e, seen_fits _ _ _ _ c.self.invariant c.self.view_is c.args.i)
