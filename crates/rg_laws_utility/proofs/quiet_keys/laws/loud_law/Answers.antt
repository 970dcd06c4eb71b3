use Rattle.rg_laws_utility.proofs.QuietKeysLemmas.Louder.{none_hushed, said_loud}
use Rattle.rg_laws_utility.proofs.quiet_keys.laws.loud_law.Goals as goal

pub returns-clause-none : goal.returns-clause-none
returns-clause-none c = none_hushed

pub returns-clause-said : goal.returns-clause-said
returns-clause-said c = said_loud
