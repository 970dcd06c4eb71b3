-- What a call outside does to the count of faults.
use Rattle.std.specs.Prelude.{ℕ, ◌≡◌, ◌<◌}

-- a write that took nothing of something
abbrev pub TakesNothing : ℕ → ℕ → Type 0
TakesNothing n len = (n ≡ 0) × (0 < len)
