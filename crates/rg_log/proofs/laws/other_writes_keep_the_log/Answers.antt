use Rattle.rg_log.proofs.Present.{log_wrote}
use Rattle.rg_log.proofs.laws.other_writes_keep_the_log.Goals as goal

pub returns : goal.returns
returns c = log_wrote
