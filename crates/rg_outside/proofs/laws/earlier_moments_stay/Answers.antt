use Rattle.rg_outside.proofs.Run.{moment_more}
use Rattle.rg_outside.proofs.laws.earlier_moments_stay.Goals as goal

pub returns : goal.returns
returns c = moment_more
