use Rattle.rg_log.proofs.Present.{log_appended}
use Rattle.rg_log.proofs.laws.appends_keep_the_log.Goals as goal

pub returns : goal.returns
returns c = λ capacity low rs more told. log_appended capacity low rs told more
