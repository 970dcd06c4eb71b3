use Rattle.rg_deck.proofs.Readings.{one_reading}
use Rattle.rg_deck.proofs.laws.one_reading.Goals as goal

pub returns : goal.returns
returns c = one_reading
