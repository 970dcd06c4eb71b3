use Rattle.rg_log.proofs.Present.{log_part, log_sound, log_tidy}
use Rattle.rg_log.proofs.laws.crashes_leave_a_part.Goals as goal

pub returns-clause-part : goal.returns-clause-part
returns-clause-part c = log_part

pub returns-clause-sound : goal.returns-clause-sound
returns-clause-sound c = log_sound

pub returns-clause-tidy : goal.returns-clause-tidy
returns-clause-tidy c = log_tidy
