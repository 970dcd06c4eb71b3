use Rattle.rg_translate.proofs.RightCopyLemmas.Taking.{loaded}
use Rattle.rg_translate.proofs.right_copy.laws.load_law.Goals as goal

pub returns : goal.returns
returns c = loaded
