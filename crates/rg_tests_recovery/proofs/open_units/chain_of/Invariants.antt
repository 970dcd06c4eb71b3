use Rattle.std.proofs.Common.{take}
use Rattle.rg_check.specs.Chain.Kept.{IsKept}
use Rattle.rg_tests_recovery.proofs.open_units.chain_of.Given as goal

abbrev pub invariant-loop-at : goal.invariant-loop-at
invariant-loop-at g l = IsKept (take l.at l.records) l.chain
