use Rattle.rg_translate.proofs.RightCopyLemmas.Taking.{batch_taken}
use Rattle.rg_translate.proofs.right_copy.laws.batch_law.Goals as goal

pub returns : goal.returns
returns c = batch_taken
