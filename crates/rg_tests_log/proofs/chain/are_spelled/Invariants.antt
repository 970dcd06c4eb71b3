use Rattle.std.proofs.Common.{take}
use Rattle.rg_image.specs.Kept.{AreEntries}
use Rattle.rg_tests_log.proofs.chain.are_spelled.Given as goal

abbrev pub invariant-loop-entry : goal.invariant-loop-entry
invariant-loop-entry l = AreEntries (take l.entry-index l.records)
