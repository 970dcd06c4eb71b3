use Rattle.rg_log.proofs.Present.{log_calls, log_quiet}
use Rattle.rg_log.proofs.laws.other_calls_keep_the_log.Goals as goal

pub returns-clause-writes : goal.returns-clause-writes
returns-clause-writes c = log_calls

pub returns-clause-reads : goal.returns-clause-reads
returns-clause-reads c = log_quiet
