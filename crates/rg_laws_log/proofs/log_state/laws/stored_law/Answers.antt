use Rattle.rg_laws_log.proofs.LogStateLemmas.Prefixes.{commits_tell, prefix_stored}
use Rattle.rg_laws_log.proofs.log_state.laws.stored_law.Goals as goal

pub returns-clause-commits : goal.returns-clause-commits
returns-clause-commits c limit acts runs f may k = commits_tell limit acts runs f may k

pub returns-clause-stored : goal.returns-clause-stored
returns-clause-stored c limit acts runs k = prefix_stored limit acts runs k
