use Rattle.rg_laws_utility.proofs.RecordChangesLemmas.Moving.{changes_move}
use Rattle.rg_laws_utility.proofs.record_changes.laws.rows_law.Goals as goal

pub returns : goal.returns
returns c = changes_move
