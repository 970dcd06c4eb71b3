use Rattle.rg_laws_utility.proofs.RecordChangesLemmas.Counting.{undos_counted, undos_told}
use Rattle.rg_laws_utility.proofs.record_changes.laws.undos_law.Goals as goal

pub returns-clause-counted : goal.returns-clause-counted
returns-clause-counted c = undos_counted

pub returns-clause-told : goal.returns-clause-told
returns-clause-told c = undos_told
