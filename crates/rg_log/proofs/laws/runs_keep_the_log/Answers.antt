use Rattle.rg_log.proofs.Present.{log_joined, log_left}
use Rattle.rg_log.proofs.laws.runs_keep_the_log.Goals as goal

pub returns-clause-join : goal.returns-clause-join
returns-clause-join c = log_joined

pub returns-clause-end : goal.returns-clause-end
returns-clause-end c = log_left
