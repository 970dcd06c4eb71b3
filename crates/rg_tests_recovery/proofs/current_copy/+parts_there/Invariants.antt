use Rattle.std.proofs.Common.{length}
use Rattle.rg_tests_recovery.proofs.current_copy.+parts_there.Given as goal

abbrev pub decreases-parts_there : goal.decreases-parts_there
decreases-parts_there l = length l.parts.now
