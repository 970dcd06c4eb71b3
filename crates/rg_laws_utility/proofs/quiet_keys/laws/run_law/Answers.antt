use Rattle.rg_laws_utility.proofs.QuietKeysLemmas.Louder.{quiet_in_run}
use Rattle.rg_laws_utility.proofs.quiet_keys.laws.run_law.Goals as goal

pub returns : goal.returns
returns c = quiet_in_run
