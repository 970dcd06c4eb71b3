use Rattle.rg_check.proofs.OpenUnitsLemmas.Opens.{open_is_listed}
use Rattle.rg_check.proofs.open_units.laws.all_law.Goals as goal

pub returns : goal.returns
returns c = open_is_listed
