-- What the reader of the operator's file finds.
use Rattle.std.specs.Prelude.{ℕ, ◌≡◌, ◌≢◌, ◌⊎◌, List, [], ◌∷◌, ◌++◌, Option, None, Some}
use Rattle.std.specs.List.{AllByRecursion}
use Rattle.rg_base.specs.declared.control.Answer.{Answer}
use Rattle.rg_opts.specs.Operator.{IsAnswerLine}

-- the bytes are a line with its line feed and a rest, or the last line, which lacks it
abbrev pub CutsLine : List ℕ → List ℕ → List ℕ → Type 0
CutsLine bytes line rest =
    AllByRecursion (λ b. b ≢ 10) line
    × ((bytes ≡ line ++ 10 ∷ rest) ⊎ ((bytes ≡ line) × (rest ≡ [])))

-- the answer that a line is, or that it is none
abbrev pub FindsAnswer : List ℕ → Option Answer → Type 0
FindsAnswer line None = (answer : Answer) → IsAnswerLine line answer → ⊥
FindsAnswer line (Some answer) = IsAnswerLine line answer
