use Rattle.std.proofs.Common.{◌∙◌, sym, ap, arith}
use Rattle.std.proofs.lemmas.List.Sums.{position_or_len_is}
use Rattle.rg_home.specs.Slot.{Free}
use Rattle.rg_home.specs.Slots.{is_free}
use Rattle.rg_page.proofs.summary.Summary.first_free.Goals as goal

pub returns-then-is_free : goal.returns-then-is_free
returns-then-is_free c = sym
    (position_or_len_is is_free c.args.self.now c.loop-i.i Free (omega arith) c.loop-i.invariant
    (λ h. ap is_free (sym c.header.ensures) ∙ sym c.is_free.ensures ∙ c.if-is_free.true))

pub returns : goal.returns
returns c = sym
    (position_or_len_is is_free c.args.self.now c.len-count.result Free (omega arith)
    (λ k h. c.loop-i.invariant k (omega arith)) (λ h. absurd (omega arith)))
