use Rattle.std.proofs.Common.{length}
use Rattle.rg_check.proofs.chain.names.+parts_in.Given as goal

abbrev pub decreases-parts_in : goal.decreases-parts_in
decreases-parts_in l = length l.parts.now
