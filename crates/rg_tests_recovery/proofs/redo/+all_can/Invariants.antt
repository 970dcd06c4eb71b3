use Rattle.std.proofs.Common.{length}
use Rattle.rg_tests_recovery.proofs.redo.+all_can.Given as goal

abbrev pub decreases-all_can : goal.decreases-all_can
decreases-all_can g l = length l.records.now
