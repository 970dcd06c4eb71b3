use Rattle.std.proofs.Common.{refl}
use Rattle.rg_rules.proofs.TallyLemmas.Tallies.{tallied-none}
use Rattle.rg_rules.proofs.tally.tally.Tally.new.Goals as goal

pub returns : goal.returns
returns c = tallied-none _ refl refl c.new.ensures c.new-2.ensures c.new-3.ensures refl refl
