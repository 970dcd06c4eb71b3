use Rattle.rg_check.proofs.OpenUnitsLemmas.Lefts.{left_is_of}
use Rattle.rg_check.proofs.open_units.laws.records_law.Goals as goal

pub returns : goal.returns
returns c = left_is_of
