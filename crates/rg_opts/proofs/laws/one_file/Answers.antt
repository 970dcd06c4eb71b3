use Rattle.rg_opts.proofs.One.{one_file}
use Rattle.rg_opts.proofs.laws.one_file.Goals as goal

pub returns : goal.returns
returns c = one_file
