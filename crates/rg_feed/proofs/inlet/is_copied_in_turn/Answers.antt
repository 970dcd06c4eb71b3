use Rattle.std.proofs.Common.{◌-◌, ◌∙◌, ◌∷◌, [], ap, arith, inl, inr, sym}
use Rattle.rg_feed.specs.Fold.Lawful.{passes_over}
use Rattle.rg_feed.proofs.Passing.{in_turn_at, in_turn_none}
use Rattle.rg_feed.proofs.inlet.is_copied_in_turn.Goals as goal

pub returns-then-change-eq0 : goal.returns-then-change-eq0
returns-then-change-eq0 c = sym
    (in_turn_none c.args.change.now 0 c.args.copies.now c.requires
    (inl (omega (arith, c.if-change-eq0.true))))

pub returns-in-None : goal.returns-in-None
returns-in-None c = sym
    (in_turn_none c.args.change.now 0 c.args.copies.now c.requires
    (inr (omega (arith, c.if-change-eq0.false, c.in-None.ensures.lookup.3))))

pub returns-in-Some : goal.returns-in-Some
returns-in-Some c =
    let found = c.in-Some.ensures.lookup in
    c.is_later_copy.ensures ∙ ap (λ item. passes_over (item ∷ []) c.args.change.now) found.1
    ∙ in_turn_at c.args.change.now 0 c.args.copies.now (c.args.change.now.home.page - 1)
    c.in-Some.item.now c.requires found.3.0 (omega (arith, c.if-change-eq0.false))
