use Rattle.std.specs.Prelude.{ℕ, ◌≤◌, List, length}
use Rattle.std.specs.List.{AllByRecursion}

-- a printing character other than the space: from `!` to `~`
abbrev pub IsLetter : ℕ → Type 0
IsLetter b = (33 ≤ b) × (b ≤ 126)

-- a row's text has at most 800 bytes, each of them such a character (this profile's choice)
pub record IsText (bytes : List ℕ) : Type 0 where
  pub short : length bytes ≤ 800
  pub letters : AllByRecursion IsLetter bytes
