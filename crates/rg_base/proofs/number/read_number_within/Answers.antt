use Rattle.std.proofs.Common.{◌≡◌, arith, sym, ◌∙◌}
use Rattle.std.proofs.lemmas.Fmt.{decimal_injective}
use Rattle.rg_base.proofs.number.read_number_within.Goals as goal

pub returns-then-number-limit-clause-none : goal.returns-then-number-limit-clause-none
returns-then-number-limit-clause-none c = λ n low e.
    let same : n ≡ c.in_ok-number.number =
    decimal_injective _ _ (omega arith) (omega arith) (sym e ∙ c.in_ok-number.ensures.found) in
    omega (arith, same)
