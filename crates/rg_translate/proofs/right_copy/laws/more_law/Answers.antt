use Rattle.rg_translate.proofs.RightCopyLemmas.Taking.{more_received, same_slots}
use Rattle.rg_translate.proofs.right_copy.laws.more_law.Goals as goal

pub returns-clause-more : goal.returns-clause-more
returns-clause-more c = more_received

pub returns-clause-slots : goal.returns-clause-slots
returns-clause-slots c = same_slots
