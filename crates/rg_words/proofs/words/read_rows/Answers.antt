use Rattle.std.proofs.Common.{◌≡◌, arith, sym, ◌∙◌}
use Rattle.std.proofs.lemmas.Fmt.{decimal_injective}
use Rattle.rg_words.proofs.words.read_rows.Goals as goal

pub returns-in_default-clause-none : goal.returns-in_default-clause-none
returns-in_default-clause-none c = λ rows low high e.
    let same : rows ≡ c.in_ok-rows.rows =
    decimal_injective _ _ (omega arith) (omega arith) (sym e ∙ c.in_ok-rows.ensures.found) in
    omega (arith, same)

pub returns-in_default-2-clause-none : goal.returns-in_default-2-clause-none
returns-in_default-2-clause-none c = λ rows low high e.
    let same : rows ≡ c.in_ok-rows.rows =
    decimal_injective _ _ (omega arith) (omega arith) (sym e ∙ c.in_ok-rows.ensures.found) in
    omega (arith, same)
