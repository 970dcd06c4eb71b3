use Rattle.std.specs.Prelude.{ℕ, ◌-◌, ◌^◌, ◌==◌, nat_lt, List, [], ◌∷◌, ◌++◌, length}
use Rattle.std.specs.Prelude.{slice_index_or, Option, Some, None, if◌then◌else◌}
use Rattle.std.proofs.Common.{zero, suc}
use Rattle.rg_base.specs.declared.control.Answer.{Answer}
use Rattle.rg_base.specs.declared.control.Command.TheVariants.{Nothing}

-- the lines of a script, how often it was asked, and how many changes it was last told to be left
pub record Script : Type 0 where
  pub lines : List Answer
  pub asks : ℕ
  pub left : ℕ

-- what is answered where there is no line
abbrev pub idle_answer : Answer
idle_answer = record { now = 0; estimate = 0; command = Nothing }

-- the last line without its command
abbrev pub last_without_command : List Answer → Answer
last_without_command lines =
    record (slice_index_or lines (length lines - 1) idle_answer) { command = Nothing }

-- the answer after n others: the line there, or behind the lines the last one without its command
abbrev pub answer_at : List Answer → ℕ → Answer
answer_at lines n = slice_index_or lines n (last_without_command lines)

-- the first n answers
abbrev pub answers_to : List Answer → ℕ → List Answer
answers_to lines zero = []
answers_to lines (suc n) = answers_to lines n ++ answer_at lines n ∷ []

-- the answers so far, told while their number is below its type's end
abbrev pub told_answers : Script → Option (List Answer)
told_answers s = if nat_lt s.asks (2 ^ 64 - 1) then Some (answers_to s.lines s.asks) else None

-- the changes last told to be left, told once it was asked and while the number of asks is below
-- its type's end
abbrev pub told_left : Script → Option ℕ
told_left s =
    if s.asks == 0 then None else (if nat_lt s.asks (2 ^ 64 - 1) then Some s.left else None)
