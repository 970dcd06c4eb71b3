use Rattle.std.specs.Prelude.{◌≡◌, ◌<◌, ℕ, List, length, slice_index}

-- there is a byte, and no zero stands before another
abbrev pub IsUnpadded : List ℕ → Type 0
IsUnpadded word = (0 < length word) × (slice_index word 0 ≡ 48 → length word ≡ 1)
