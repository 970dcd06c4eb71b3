-- Drawn numbers: the upper bits of the states of a linear congruential generator.
use Rattle.std.specs.Prelude.{ℕ, ◌+◌, ◌*◌, ◌/◌, ◌%◌, ◌^◌}

-- the state after this one, of 64 bits
abbrev pub next_state : ℕ → ℕ
next_state state = (state * 6364136223846793005 + 1442695040888963407) % 2 ^ 64

-- the number that a state gives: its upper 31 bits
abbrev pub drawn : ℕ → ℕ
drawn state = state / 2 ^ 33
