use Rattle.std.proofs.Common.{◌-◌, length}
use Rattle.rg_opts.specs.Statement.{texts}
use Rattle.rg_opts.proofs.Walk.{SoFar}
use Rattle.rg_opts.proofs.reading.read_settings.Given as goal

abbrev pub invariant-loop-at : goal.invariant-loop-at
invariant-loop-at l = SoFar l.scope (texts l.words) l.settings l.at

abbrev pub decreases-loop-at : goal.decreases-loop-at
decreases-loop-at l = length l.words - l.at
