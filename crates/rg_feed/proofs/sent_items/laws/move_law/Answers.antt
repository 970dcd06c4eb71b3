use Rattle.rg_feed.proofs.SentItemsLemmas.Sending.{moves_sent}
use Rattle.rg_feed.proofs.sent_items.laws.move_law.Goals as goal

pub returns : goal.returns
returns c = moves_sent
