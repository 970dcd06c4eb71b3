use Rattle.rg_laws_utility.proofs.ByteAccountLemmas.Reached.{begin_reaches, entry_reaches}
use Rattle.rg_laws_utility.proofs.ByteAccountLemmas.Reached.{feed_is_allowed, said_reaches}
use Rattle.rg_laws_utility.proofs.byte_account.laws.reach_law.Goals as goal

pub returns-clause-said : goal.returns-clause-said
returns-clause-said c = said_reaches

pub returns-clause-entry : goal.returns-clause-entry
returns-clause-entry c = entry_reaches

pub returns-clause-start : goal.returns-clause-start
returns-clause-start c = begin_reaches

pub returns-clause-feed : goal.returns-clause-feed
returns-clause-feed c = feed_is_allowed
