use Rattle.rg_laws_utility.proofs.TraceLocksLemmas.Sorting.{same_spots}
use Rattle.rg_laws_utility.proofs.TraceLocksLemmas.Switching.{right_switch}
use Rattle.rg_laws_utility.proofs.trace_locks.laws.switch_law.Goals as goal

pub returns-clause-right : goal.returns-clause-right
returns-clause-right c past st options sides old new claims quiet packed =
    right_switch past st options sides old new claims quiet packed

pub returns-clause-same : goal.returns-clause-same
returns-clause-same c = same_spots
