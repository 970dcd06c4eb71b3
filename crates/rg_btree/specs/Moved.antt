-- How two rows are shared out.
use Rattle.std.specs.Prelude.{ℕ, ◌+◌, ◌-◌, nat_lt, if◌then◌else◌}

-- how many the left has afterwards: the shorter takes one from the longer
abbrev pub moved : ℕ → ℕ → ℕ
moved left right = if nat_lt left right then left + 1
    else (if nat_lt right left then left - 1 else left)
