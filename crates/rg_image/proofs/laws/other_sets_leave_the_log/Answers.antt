use Rattle.rg_image.proofs.Other.{other_write}
use Rattle.rg_image.proofs.laws.other_sets_leave_the_log.Goals as goal

pub returns : goal.returns
returns c = other_write
