use Rattle.rg_laws_utility.proofs.CopyWeightLemmas.Bounding.{all_reach}
use Rattle.rg_laws_utility.proofs.CopyWeightLemmas.Weighing.{weigh_permuted}
use Rattle.rg_laws_utility.proofs.copy_weight.laws.bound_law.Goals as goal

pub returns-clause-all : goal.returns-clause-all
returns-clause-all c = all_reach

pub returns-clause-order : goal.returns-clause-order
returns-clause-order c = weigh_permuted
