use Rattle.std.proofs.Common.{◌≡◌}
use Rattle.rg_log.specs.Kept.{log_pages}
use Rattle.rg_mem.specs.Shown.{capacities_of}
use Rattle.reorgdb.proofs.tests.openings.opening_of.Given as goal

abbrev pub invariant-loop-line : goal.invariant-loop-line
invariant-loop-line g l = l.log.pages ≡ log_pages (capacities_of l.fn.volume)
