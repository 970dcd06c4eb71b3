use Rattle.rg_feed.proofs.SentItemsLemmas.Sending.{start_sent}
use Rattle.rg_feed.proofs.sent_items.laws.begin_law.Goals as goal

pub returns : goal.returns
returns c = start_sent
