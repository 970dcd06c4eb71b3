use Rattle.std.proofs.Common.{length}
use Rattle.rg_tests_recovery.proofs.current_copy.+all_there.Given as goal

abbrev pub decreases-all_there : goal.decreases-all_there
decreases-all_there l = length l.records.now
