use Rattle.std.proofs.Common.{◌≡◌, ◌||◌, ◌-◌, ℕ, drop, length}
use Rattle.std.specs.FinMap as map
use Rattle.rg_image.specs.Meaning.{is_committed}
use Rattle.rg_restart.proofs.stored.committed_in.Given as goal

abbrev pub decreases-loop-at : goal.decreases-loop-at
decreases-loop-at l = length l.records - l.at

abbrev pub invariant-loop-at : goal.invariant-loop-at
invariant-loop-at l = (tran : ℕ)
    → (map.contains_key l.ended tran || is_committed (drop l.at l.records) tran)
    ≡ is_committed l.records tran
