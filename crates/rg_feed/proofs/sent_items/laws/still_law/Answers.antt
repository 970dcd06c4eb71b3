use Rattle.rg_feed.proofs.SentItemsLemmas.Sending.{entry_passed, switch_passed}
use Rattle.rg_feed.proofs.sent_items.laws.still_law.Goals as goal

pub returns-clause-passed : goal.returns-clause-passed
returns-clause-passed c = entry_passed

pub returns-clause-switched : goal.returns-clause-switched
returns-clause-switched c = switch_passed
