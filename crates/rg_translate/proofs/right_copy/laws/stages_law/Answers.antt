use Rattle.rg_translate.proofs.RightCopyLemmas.Taking.{stage_made}
use Rattle.rg_translate.proofs.right_copy.laws.stages_law.Goals as goal

pub returns : goal.returns
returns c = stage_made
