use Rattle.rg_image.specs.Rules.{greatest_tran}
use Rattle.rg_check.proofs.OpenUnitsLemmas.Opens.{owed_listed}
use Rattle.rg_check.proofs.open_units.laws.owed_law.Goals as goal

pub returns : goal.returns
returns c = λ rs. owed_listed (greatest_tran rs) rs
