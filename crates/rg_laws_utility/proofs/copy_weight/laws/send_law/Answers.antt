use Rattle.rg_laws_utility.proofs.CopyWeightLemmas.Bringing.{changes_reach, copy_reaches}
use Rattle.rg_laws_utility.proofs.CopyWeightLemmas.Bringing.{still_reaches}
use Rattle.rg_laws_utility.proofs.copy_weight.laws.send_law.Goals as goal

pub returns-clause-changes : goal.returns-clause-changes
returns-clause-changes c = changes_reach

pub returns-clause-copy : goal.returns-clause-copy
returns-clause-copy c = copy_reaches

pub returns-clause-still : goal.returns-clause-still
returns-clause-still c = still_reaches
