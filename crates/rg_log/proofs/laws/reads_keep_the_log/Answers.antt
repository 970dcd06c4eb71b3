use Rattle.rg_log.proofs.Present.{log_read}
use Rattle.rg_log.proofs.laws.reads_keep_the_log.Goals as goal

pub returns : goal.returns
returns c = log_read
