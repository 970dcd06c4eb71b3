use Rattle.rg_translate.proofs.LoadLemmas.Loading.{packed_right}
use Rattle.rg_translate.proofs.load.laws.right_law.Goals as goal

pub returns : goal.returns
returns c = packed_right
