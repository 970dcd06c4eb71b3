use Rattle.rg_engine.proofs.ChangeFeedLemmas.Keeping.{entry_kept, switch_kept}
use Rattle.rg_engine.proofs.change_feed.laws.still_law.Goals as goal

pub returns-clause-entry : goal.returns-clause-entry
returns-clause-entry c = entry_kept

pub returns-clause-switched : goal.returns-clause-switched
returns-clause-switched c = switch_kept
