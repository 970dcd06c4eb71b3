use Rattle.std.proofs.Common.{◌-◌, ◌^◌}
use Rattle.rg_base.specs.Start.{start_of}
use Rattle.rg_check.proofs.PageTestsLemmas.Noting.{NotedBelow}
use Rattle.rg_check.proofs.page_tests.stored.are_noted.Given as goal

abbrev pub decreases-loop-key : goal.decreases-loop-key
decreases-loop-key l = 2 ^ 64 - start_of l.last

abbrev pub invariant-loop-key : goal.invariant-loop-key
invariant-loop-key l = NotedBelow l.stored l.notes (start_of l.last)
