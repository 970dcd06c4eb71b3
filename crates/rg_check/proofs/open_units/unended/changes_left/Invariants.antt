use Rattle.std.proofs.Common.{◌≡◌, ◌-◌, drop, length, reverse}
use Rattle.rg_image.specs.Rules.{of_tran}
use Rattle.rg_check.specs.OpenUnits.Unended.{left_after, left_of}
use Rattle.rg_check.proofs.open_units.unended.changes_left.Given as goal

abbrev pub decreases-loop-at : goal.decreases-loop-at
decreases-loop-at l = length l.records - l.at

abbrev pub invariant-loop-at : goal.invariant-loop-at
invariant-loop-at l =
    left_after (reverse l.left.items) (of_tran l.tran.0 (drop l.at l.records))
    ≡ left_of l.tran.0 l.records
