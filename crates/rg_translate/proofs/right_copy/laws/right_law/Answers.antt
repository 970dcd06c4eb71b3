use Rattle.rg_translate.proofs.RightCopyLemmas.Right.{caught_quiet, caught_right}
use Rattle.rg_translate.proofs.right_copy.laws.right_law.Goals as goal

pub returns-clause-quiet : goal.returns-clause-quiet
returns-clause-quiet c = caught_quiet

pub returns-clause-right : goal.returns-clause-right
returns-clause-right c = caught_right
