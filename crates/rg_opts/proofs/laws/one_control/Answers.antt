use Rattle.rg_opts.proofs.One.{one_control}
use Rattle.rg_opts.proofs.laws.one_control.Goals as goal

pub returns : goal.returns
returns c = one_control
