use Rattle.rg_check.proofs.OpenUnitsLemmas.Opens.{listed_is}
use Rattle.rg_check.proofs.open_units.laws.open_law.Goals as goal

pub returns : goal.returns
returns c = λ rs t there. (listed_is rs t there).0
