use Rattle.std.proofs.Common.{◌≡◌, ◌≤◌, ◌-◌, drop, length}
use Rattle.rg_redo.specs.Redo.{since_last, since_switch}
use Rattle.rg_redo.proofs.redo.count_switched.Given as goal

abbrev pub decreases-loop-at : goal.decreases-loop-at
decreases-loop-at l = length l.records - l.at

abbrev pub invariant-loop-at : goal.invariant-loop-at
invariant-loop-at l = record {
  within : l.from ≤ length l.records;
  since : since_last (drop l.from l.records) (drop l.at l.records) ≡ since_switch l.records;
}
