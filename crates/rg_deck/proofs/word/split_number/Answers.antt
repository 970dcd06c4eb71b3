use Rattle.rg_deck.proofs.Words.{no_number_word}
use Rattle.rg_deck.proofs.word.split_number.Goals as goal

pub returns-in_err-read_number-clause-none : goal.returns-in_err-read_number-clause-none
returns-in_err-read_number-clause-none c =
    rw c.from_residual-in_err-read_number.ensures
    (no_number_word _ _ _ c.in_ok-word.ensures.front c.in_ok-word.ensures.whole
    c.in_err-read_number.ensures)
