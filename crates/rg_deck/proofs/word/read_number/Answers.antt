use Rattle.rg_deck.proofs.Words.{finds_number}
use Rattle.rg_deck.proofs.word.read_number.Goals as goal

pub returns : goal.returns
returns c = finds_number _ _ c.read_digits.ensures.none c.read_digits.ensures.found
