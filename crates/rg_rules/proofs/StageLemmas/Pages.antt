-- The number of a filled page is no less than how many are filled.
use Rattle.std.proofs.Common.{◌≤◌, ◌+◌, ◌-◌, ◌/◌, ◌==◌, ℕ, Bool, true, false, if◌then◌else◌, arith}
use Rattle.rg_model.specs.Packed.{page_at}

pub page_at-least : (freepage k : ℕ) → k ≤ page_at freepage k
page_at-least freepage k = by_test (freepage == 0)
  where
    by_test : (b : Bool) → k ≤ (if b then k else k + (k - 1) / freepage)
    by_test true = omega (arith)
    by_test false = omega (arith)
