use Rattle.rg_engine.proofs.ChangeFeedLemmas.Keeping.{opening_begins, said_kept}
use Rattle.rg_engine.proofs.change_feed.laws.said_law.Goals as goal

pub returns-clause-opening : goal.returns-clause-opening
returns-clause-opening c = opening_begins

pub returns-clause-said : goal.returns-clause-said
returns-clause-said c = said_kept
