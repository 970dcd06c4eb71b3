-- What the clock's operator answers.
use Rattle.std.specs.Prelude.{ℕ, ◌+◌, ◌-◌, ◌/◌, ◌^◌, min}

-- at most the last value of 32 bits
abbrev pub capped : ℕ → ℕ
capped n = min n (2 ^ 32 - 1)

-- 1,000 changes are caught up with in a second, and a part of a second counts as one
abbrev pub estimate_of : ℕ → ℕ
estimate_of left = capped ((left + 999) / 1000)
