use Rattle.rg_feed.proofs.FoldLemmas.Feeding.{change_ordered, copy_ordered, later_ordered}
use Rattle.rg_feed.proofs.fold.laws.ordered_law.Goals as goal

pub returns-clause-change : goal.returns-clause-change
returns-clause-change c = change_ordered

pub returns-clause-copy : goal.returns-clause-copy
returns-clause-copy c = copy_ordered

pub returns-clause-later : goal.returns-clause-later
returns-clause-later c = later_ordered
