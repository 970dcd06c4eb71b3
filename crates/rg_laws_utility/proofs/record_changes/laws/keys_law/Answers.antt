use Rattle.rg_laws_utility.proofs.RecordChangesLemmas.Keying.{changes_loud}
use Rattle.rg_laws_utility.proofs.record_changes.laws.keys_law.Goals as goal

pub returns : goal.returns
returns c = changes_loud
