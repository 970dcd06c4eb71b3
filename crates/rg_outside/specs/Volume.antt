-- What a volume reports.
use Rattle.std.specs.Prelude.{ℕ, Option}
use Rattle.rg_outside.specs.Calls.{Told}
use Rattle.rg_outside.specs.Capacities.{Capacities}

-- The contents when the volume was made and the calls since, where it reports them. How often a
-- call has failed: that stands still at 2 ^ 64 - 1. How many pages each set has.
pub record VolumeSeen : Type 0 where
  pub told : Option Told
  pub faults : ℕ
  pub capacities : Capacities
