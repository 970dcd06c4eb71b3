use Rattle.rg_page.specs.Bare.{numbers_of}
use Rattle.std.proofs.Common.{◌∙◌, sym, ap, arith}
use Rattle.std.proofs.lemmas.List.Sums.{position_or_len_is}
use Rattle.rg_home.specs.Slot.{Free}
use Rattle.rg_home.specs.Slots.{is_free}
use Rattle.rg_home.specs.Plan.{swept}
use Rattle.rg_home.proofs.Offers.{first_free-purged}
use Rattle.rg_page.proofs.summary.Summary.first_purged.Goals as goal

pub returns-then-goes : goal.returns-then-goes
returns-then-goes c = sym
    (first_free-purged (numbers_of c.args.live.now) c.args.self.now
    ∙ position_or_len_is (λ s. is_free (swept (numbers_of c.args.live.now) s)) c.args.self.now
    c.loop-i.i Free (omega arith) c.loop-i.invariant
    (λ h. ap (λ s. is_free (swept (numbers_of c.args.live.now) s)) (sym c.header.ensures)
    ∙ sym c.goes.ensures ∙ c.if-goes.true))

pub returns : goal.returns
returns c = sym
    (first_free-purged (numbers_of c.args.live.now) c.args.self.now
    ∙ position_or_len_is (λ s. is_free (swept (numbers_of c.args.live.now) s)) c.args.self.now
    c.len-count.result Free (omega arith) (λ k h. c.loop-i.invariant k (omega arith))
    (λ h. absurd (omega arith)))
