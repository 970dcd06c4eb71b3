use Rattle.rg_deck.proofs.Deck.{first_outside_is_one}
use Rattle.rg_deck.proofs.laws.first_outside_is_one.Goals as goal

pub returns : goal.returns
returns c = first_outside_is_one
