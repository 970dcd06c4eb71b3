use Rattle.std.proofs.Common.{◌≡◌, None, drop}
use Rattle.rg_judge.specs.Layouts.Clustered.{quiet_rises}
use Rattle.rg_judge.proofs.layouts.switch.quiet_rise.Given as goal

-- what is left decides, behind the last quiet row
abbrev pub invariant-loop-spot : goal.invariant-loop-spot
invariant-loop-spot l =
    quiet_rises l.tally l.last (drop l.spot-index l.spots) ≡ quiet_rises l.tally None l.spots
