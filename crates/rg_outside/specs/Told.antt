-- What an operator reports.
use Rattle.std.specs.Prelude.{ℕ, ◌≡◌, ◌≤◌, ◌+◌, ◌-◌, ◌^◌, List, [], ◌∷◌, ◌++◌, length, Option, Some}
use Rattle.std.specs.Prelude.{None}
use Rattle.rg_base.specs.declared.control.Answer.{Answer}

-- an operator may stop reporting its answers only with answer 2 ^ 64 - 1, or a later one
abbrev pub MayStopAnswers : Option (List Answer) → Type 0
MayStopAnswers None = Unit {0}
MayStopAnswers (Some before) = 2 ^ 64 - 1 ≤ length before + 1

-- the list of answers is longer by this one, where it is known
abbrev pub AddsAnswer : Option (List Answer) → Answer → Option (List Answer) → Type 0
AddsAnswer old answer None = MayStopAnswers old
AddsAnswer old answer (Some after) =
    (before : List Answer) × (old ≡ Some before) × (after ≡ before ++ answer ∷ [])

-- this was handed over last; it is known where the answers are
abbrev pub HandsOver : ℕ → Option (List Answer) → Option ℕ → Type 0
HandsOver left answers None = answers ≡ None
HandsOver left answers (Some last) = last ≡ left
