use Rattle.rg_engine.proofs.ChangeFeedLemmas.Keeping.{copy_kept, start_kept}
use Rattle.rg_engine.proofs.change_feed.laws.sent_law.Goals as goal

pub returns-clause-start : goal.returns-clause-start
returns-clause-start c = start_kept

pub returns-clause-copy : goal.returns-clause-copy
returns-clause-copy c = copy_kept
