-- What the operator was asked.
--
-- 1. Where an operator reports its answers, they are those that it had before, and then the ones
--    that the entries have, in order. So it was asked once for each entry with an answer, and else
--    never.
-- 2. It may stop reporting them only with answer 2 ^ 64 - 1, or a later one.
use Rattle.std.specs.Prelude.{◌≡◌, ◌≤◌, ◌+◌, ◌-◌, ◌^◌, ◌++◌, List, [], ◌∷◌, Option, Some, None}
use Rattle.std.specs.Prelude.{length}
use Rattle.rg_base.specs.declared.control.Answer.{Answer}
use Rattle.rg_stmt.specs.declared.event.Entry.{Entry}

-- the answer of an entry, and then these
abbrev pub answer_before : Option Answer → List Answer → List Answer
answer_before None answers = answers
answer_before (Some answer) answers = answer ∷ answers

-- the answers that entries have, in order
abbrev pub answers_in : List Entry → List Answer
answers_in [] = []
answers_in (entry ∷ entries) = answer_before entry.answer (answers_in entries)

-- an operator may have stopped to report them, with so many more
abbrev pub MayHaveStopped : Option (List Answer) → (more : List Answer) → Type 0
MayHaveStopped None more = Unit {0}
MayHaveStopped (Some before) more = 2 ^ 64 - 1 ≤ length before + length more

-- the list of answers is longer by these, where it is known
abbrev pub HasAnswered :
    (old : Option (List Answer)) → (more : List Answer) → (new : Option (List Answer)) → Type 0
HasAnswered old more None = MayHaveStopped old more
HasAnswered old more (Some after) =
    (before : List Answer) × (old ≡ Some before) × (after ≡ before ++ more)
