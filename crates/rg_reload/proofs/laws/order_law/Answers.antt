use Rattle.rg_reload.proofs.Clustered.{clustered_is}
use Rattle.rg_reload.proofs.laws.order_law.Goals as goal

pub returns : goal.returns
returns c = clustered_is
