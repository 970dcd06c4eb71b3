-- Where a walk from key to key goes on.
use Rattle.std.specs.Prelude.{ℕ, ◌+◌, Option, Some, None}

-- from the first key, or behind this one
abbrev pub start_of : Option ℕ → ℕ
start_of None = 0
start_of (Some key) = key + 1
