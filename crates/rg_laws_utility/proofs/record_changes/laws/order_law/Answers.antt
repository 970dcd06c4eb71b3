use Rattle.rg_laws_utility.proofs.RecordChangesLemmas.Moving.{changes_above}
use Rattle.rg_laws_utility.proofs.record_changes.laws.order_law.Goals as goal

pub returns : goal.returns
returns c = changes_above
