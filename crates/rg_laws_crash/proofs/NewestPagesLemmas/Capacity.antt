-- The pages of a copy are within its set.
use Rattle.std.proofs.Common.{◌≤◌, ◌==◌, ℕ, Bool, true, false, if◌then◌else◌, arith}
use Rattle.rg_base.specs.declared.set.Set.TheVariants.{First, Second}
use Rattle.rg_image.specs.Rules.{copy_capacity, used_pages}
use Rattle.rg_outside.specs.Capacities.{Capacities, capacity_of}
use Rattle.rg_base.specs.Copies.{set_of}

pub copy_within : (capacities : Capacities) (copy : ℕ)
    → copy_capacity capacities copy ≤ capacity_of capacities (set_of copy)
copy_within capacities copy = by_test (copy == 1)
  where
    by_test : (b : Bool)
        → used_pages (if b then capacities.first else capacities.second)
        ≤ capacity_of capacities (if b then First else Second)
    by_test true = omega arith
    by_test false = omega arith
