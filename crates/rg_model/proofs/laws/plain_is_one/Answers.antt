use Rattle.rg_model.proofs.OneState.{one_next}
use Rattle.rg_model.proofs.laws.plain_is_one.Goals as goal

pub returns : goal.returns
returns c = one_next
