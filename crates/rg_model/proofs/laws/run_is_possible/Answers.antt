use Rattle.rg_model.proofs.RunPossible.{run_possible_start}
use Rattle.rg_model.proofs.laws.run_is_possible.Goals as goal

pub returns : goal.returns
returns c = run_possible_start
