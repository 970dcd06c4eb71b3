use Rattle.rg_feed.proofs.FoldLemmas.Applied.{same_fold}
use Rattle.rg_feed.proofs.FoldLemmas.Batches.{batch, unnamed_stays}
use Rattle.rg_feed.proofs.fold.laws.batch_law.Goals as goal

pub returns-clause-batch : goal.returns-clause-batch
returns-clause-batch c = batch

pub returns-clause-unnamed : goal.returns-clause-unnamed
returns-clause-unnamed c = unnamed_stays

pub returns-clause-net : goal.returns-clause-net
returns-clause-net c = same_fold
