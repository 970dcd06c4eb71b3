use Rattle.rg_feed.proofs.FoldLemmas.Loaded.{copies_apart}
use Rattle.rg_feed.proofs.FoldLemmas.Permuted.{same_rows}
use Rattle.rg_feed.proofs.fold.laws.rows_law.Goals as goal

pub returns-clause-apart : goal.returns-clause-apart
returns-clause-apart c = copies_apart

pub returns-clause-order : goal.returns-clause-order
returns-clause-order c = same_rows
