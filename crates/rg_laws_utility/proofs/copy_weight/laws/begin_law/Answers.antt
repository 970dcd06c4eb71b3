use Rattle.rg_laws_pages.proofs.ByteClaimsLemmas.Weight.{all_rows_claim}
use Rattle.rg_laws_utility.proofs.CopyWeightLemmas.Bringing.{start_reaches}
use Rattle.rg_laws_utility.proofs.copy_weight.laws.begin_law.Goals as goal

pub returns-clause-start : goal.returns-clause-start
returns-clause-start c = start_reaches

pub returns-clause-claims : goal.returns-clause-claims
returns-clause-claims c = all_rows_claim
