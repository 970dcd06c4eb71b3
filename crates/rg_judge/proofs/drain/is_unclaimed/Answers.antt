use Rattle.std.proofs.Common.{◌≡◌, Bool, true, false, not, refl, sym, ◌∙◌, ap}
use Rattle.std.specs.Option.{is_some}
use Rattle.rg_claim.specs.ClaimState.{ClaimState}
use Rattle.rg_model.specs.Claims.{least_holder}
use Rattle.rg_judge.proofs.Unclaimed.{unclaimed}
use Rattle.rg_judge.proofs.drain.is_unclaimed.Goals as goal

twice : (b : Bool) → b ≡ not (not b)
twice true = refl
twice false = refl

pub returns-clause-unclaimed : goal.returns-clause-unclaimed
returns-clause-unclaimed c =
    twice c.is_none.result
    ∙ ap not (sym c.is_none.ensures)
    ∙ ap (λ o. not (is_some o)) c.holder-holder.ensures.holder
    ∙ ap (λ (s : ClaimState). not (is_some (least_holder s.drain s.claims))) c.ask.ensures
    ∙ unclaimed c.args.claims.now.claims
