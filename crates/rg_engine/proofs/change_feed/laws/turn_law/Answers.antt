use Rattle.rg_engine.proofs.ChangeFeedLemmas.Turning.{booked_copies_none, unload_copies}
use Rattle.rg_engine.proofs.change_feed.laws.turn_law.Goals as goal

pub returns-clause-booked : goal.returns-clause-booked
returns-clause-booked c = booked_copies_none

pub returns-clause-unload : goal.returns-clause-unload
returns-clause-unload c = unload_copies
