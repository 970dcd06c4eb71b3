use Rattle.std.proofs.Common.{◌≡◌, ◌≤◌, ◌-◌, ℕ, length}
use Rattle.rg_engine.specs.OnVolume.{mark_at}
use Rattle.rg_engine.proofs.flush.make_room.Given as goal

-- pages without a mark have none
abbrev pub invariant-loop-marks : goal.invariant-loop-marks
invariant-loop-marks l = (p : ℕ) → 1 ≤ p → mark_at l.marks.items p ≡ mark_at l.fn.marks.items p

abbrev pub decreases-loop-marks : goal.decreases-loop-marks
decreases-loop-marks l = l.number - length l.marks.items
