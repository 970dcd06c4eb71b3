use Rattle.rg_words.proofs.option.only_option.Goals as goal

pub returns-in_err-value-clause-none : goal.returns-in_err-value-clause-none
returns-in_err-value-clause-none c =
    rw c.from_residual.ensures (λ value. c.in_err-value.ensures.none value _)
