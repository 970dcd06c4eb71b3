use Rattle.rg_feed.proofs.SentItemsLemmas.Sending.{copy_sent}
use Rattle.rg_feed.proofs.sent_items.laws.copy_law.Goals as goal

pub returns : goal.returns
returns c = copy_sent
