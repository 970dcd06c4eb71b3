use Rattle.rg_translate.proofs.LoadLemmas.Loading.{packed_stays}
use Rattle.rg_translate.proofs.load.laws.stays_law.Goals as goal

pub returns : goal.returns
returns c = packed_stays
