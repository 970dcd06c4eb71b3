use Rattle.rg_opts.proofs.One.{one_alteration}
use Rattle.rg_opts.proofs.laws.one_alteration.Goals as goal

pub returns : goal.returns
returns c = one_alteration
