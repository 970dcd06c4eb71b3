use Rattle.rg_feed.proofs.FoldLemmas.Loaded.{load}
use Rattle.rg_feed.proofs.FoldLemmas.Taken.{take_all, take_one}
use Rattle.rg_feed.proofs.fold.laws.taken_law.Goals as goal

pub returns-clause-load : goal.returns-clause-load
returns-clause-load c = load

pub returns-clause-one : goal.returns-clause-one
returns-clause-one c = take_one

pub returns-clause-all : goal.returns-clause-all
returns-clause-all c = take_all
