use Rattle.rg_laws_utility.proofs.TraceLocksLemmas.Telling.{quiet_stays}
use Rattle.rg_laws_utility.proofs.trace_locks.laws.quiet_law.Goals as goal

pub returns : goal.returns
returns c = record { stays = quiet_stays }
