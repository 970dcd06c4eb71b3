use Rattle.rg_check.proofs.OpenUnitsLemmas.Opens.{listed_is}
use Rattle.rg_check.proofs.open_units.laws.below_law.Goals as goal

pub returns : goal.returns
returns c = λ rs t there. let is = listed_is rs t there in (is.0.0, is.1, is.0.2)
