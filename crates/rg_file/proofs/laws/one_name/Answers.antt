use Rattle.rg_file.proofs.Names.{one_name}
use Rattle.rg_file.proofs.laws.one_name.Goals as goal

pub returns : goal.returns
returns c = one_name
