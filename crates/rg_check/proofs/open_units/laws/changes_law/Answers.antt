use Rattle.rg_check.proofs.OpenUnitsLemmas.Lefts.{left_are_changes}
use Rattle.rg_check.proofs.open_units.laws.changes_law.Goals as goal

pub returns : goal.returns
returns c = left_are_changes
