use Rattle.rg_laws_crash.proofs.LogChainLemmas.Owing.{fronts_have_space, owes}
use Rattle.rg_laws_crash.proofs.log_chain.laws.space_law.Goals as goal

pub returns-clause-owes : goal.returns-clause-owes
returns-clause-owes c = owes

pub returns-clause-fronts : goal.returns-clause-fronts
returns-clause-fronts c limit pages rs more space next n =
    fronts_have_space limit pages rs more space next n
