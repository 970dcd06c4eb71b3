-- How many pages a volume may have.
use Rattle.std.specs.Prelude.{ℕ, ◌≤◌}

-- the log has two pages at least, and a copy of the table one; neither has more than 65,536
abbrev pub AreSizes : ℕ → ℕ → Type 0
AreSizes log copy = (2 ≤ log) × (log ≤ 65536) × (1 ≤ copy) × (copy ≤ 65536)
