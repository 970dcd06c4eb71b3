use Rattle.rg_words.proofs.Once.{no_size, no_rows_left, no_seed_left}
use Rattle.rg_words.proofs.words.read_size.Goals as goal

pub returns-in_err-rows-clause-none : goal.returns-in_err-rows-clause-none
returns-in_err-rows-clause-none c =
    rw c.from_residual.ensures
    (no_rows_left _ _ _ c.in-Some.ensures.found c.in_err-rows.ensures.none)

pub returns-in_err-rows-2-clause-none : goal.returns-in_err-rows-2-clause-none
returns-in_err-rows-2-clause-none c =
    rw c.from_residual-in_err-rows-2.ensures
    (no_size _ c.in_default.ensures.none c.in_err-rows-2.ensures.none)

pub returns-in_err-seed-clause-none : goal.returns-in_err-seed-clause-none
returns-in_err-seed-clause-none c =
    rw c.from_residual-in_err-seed.ensures
    (no_seed_left _ _ _ c.in_ok-rows-2.ensures.found c.in_err-seed.ensures.none)
