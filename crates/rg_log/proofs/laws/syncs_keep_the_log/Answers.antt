use Rattle.rg_log.proofs.Present.{log_synced}
use Rattle.rg_log.proofs.laws.syncs_keep_the_log.Goals as goal

pub returns : goal.returns
returns c = log_synced
