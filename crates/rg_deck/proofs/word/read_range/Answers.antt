use Rattle.rg_deck.proofs.Words.{no_range}
use Rattle.rg_deck.proofs.word.read_range.Goals as goal

pub returns-in_err-read_number-clause-none : goal.returns-in_err-read_number-clause-none
returns-in_err-read_number-clause-none c =
    rw c.from_residual-in_err-read_number.ensures
    (no_range _ _ _ c.in_ok-lo.ensures.found c.in_err-read_number.ensures)
