use Rattle.std.proofs.Common.{◌-◌, ◌^◌}
use Rattle.rg_base.specs.Start.{start_of}
use Rattle.rg_rules.proofs.TallyLemmas.Copied.{IsCopied}
use Rattle.rg_rules.proofs.tally.tally.copy_units.Given as goal

abbrev pub invariant-loop-session : goal.invariant-loop-session
invariant-loop-session l = IsCopied l.units (start_of l.last) l.copy

abbrev pub decreases-loop-session : goal.decreases-loop-session
decreases-loop-session l = 2 ^ 64 - start_of l.last
