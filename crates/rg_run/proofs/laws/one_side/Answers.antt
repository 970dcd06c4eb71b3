use Rattle.rg_run.proofs.Sides.{one_side}
use Rattle.rg_run.proofs.laws.one_side.Goals as goal

pub returns : goal.returns
returns c = one_side
