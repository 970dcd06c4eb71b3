use Rattle.std.proofs.Common.{length}
use Rattle.rg_check.proofs.chain.chain.+raised.Given as goal

abbrev pub decreases-raised : goal.decreases-raised
decreases-raised l = length l.parts.now
