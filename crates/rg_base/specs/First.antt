-- The first entry of a map from a key on.
use Rattle.std.specs.Prelude.{ℕ, ◌≡◌, ◌≤◌, ◌<◌, Option, Some, None}
use Rattle.std.specs.Ordering.{nat_cmp}
use Rattle.std.specs.FinMap as map

-- no key at or above this number has a value
abbrev pub IsEmptyFrom : {V : Type 0} → map.FinMap nat_cmp V → ℕ → Type 0
IsEmptyFrom entries from = (key : ℕ) → from ≤ key → map.get entries key ≡ None

-- no key at or above the one number, and below the other, has a value
abbrev pub IsEmptyBetween : {V : Type 0} → map.FinMap nat_cmp V → ℕ → ℕ → Type 0
IsEmptyBetween entries from end = (key : ℕ) → from ≤ key → key < end → map.get entries key ≡ None

-- the entry with the least key at or above this number, or none where no such key has a value
abbrev pub IsFirstFrom : {V : Type 0} → map.FinMap nat_cmp V → ℕ → Option (ℕ × V) → Type 0
IsFirstFrom entries from None = IsEmptyFrom entries from
IsFirstFrom entries from (Some entry) =
    (from ≤ entry.0) × (map.get entries entry.0 ≡ Some entry.1)
    × IsEmptyBetween entries from entry.0
