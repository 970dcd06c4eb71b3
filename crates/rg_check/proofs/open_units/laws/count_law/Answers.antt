use Rattle.rg_check.proofs.OpenUnitsLemmas.Lefts.{left_count}
use Rattle.rg_check.proofs.open_units.laws.count_law.Goals as goal

pub returns : goal.returns
returns c = left_count
