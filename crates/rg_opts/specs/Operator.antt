-- The operator's file, as lines and words.
use Rattle.std.specs.Prelude.{ℕ, ◌≡◌, ◌==◌, ◌+◌, ◌<◌, ◌≤◌, ◌^◌, ◌⊎◌, if◌then◌else◌, List, [], ◌∷◌}
use Rattle.std.specs.Prelude.{◌++◌, length, codes}
use Rattle.std.specs.Fmt.{decimal}
use Rattle.std.specs.List.{slice_split, join_with_byte}
use Rattle.rg_base.specs.declared.control.Answer.{Answer}
use Rattle.rg_base.specs.declared.control.Command.{Command}
use Rattle.rg_base.specs.declared.control.Command.TheVariants as commands
use Rattle.rg_opts.specs.declared.operator.TheConstants.{OPERATOR_LIMIT}
use Rattle.rg_opts.specs.declared.operator.OperatorFault.{OperatorFault}
use Rattle.rg_opts.specs.declared.operator.OperatorFault.TheVariants as faults
use Rattle.rg_opts.specs.Statement.{IsAlteration}

-- the words of a command, which follow the two numbers
abbrev pub IsCommand : Command → List (List ℕ) → Type 0
IsCommand commands.Nothing words = words ≡ []
IsCommand commands.Term words = words ≡ codes "TERM" ∷ []
IsCommand (commands.Alter alteration) words =
    (options : List (List ℕ)) × (words ≡ codes "ALTER" ∷ options) × IsAlteration options alteration

-- The words of an answer: the moment, the estimate, and the command.
pub record IsAnswer (words : List (List ℕ)) (answer : Answer) : Type 0 where
  pub command : List (List ℕ)
  pub moment : answer.now < 2 ^ 32
  pub estimate : answer.estimate < 2 ^ 32
  pub whole : words ≡ decimal answer.now ∷ decimal answer.estimate ∷ command
  pub is : IsCommand answer.command command

-- a line is its words, which one space parts from each other
pub record IsAnswerLine (line : List ℕ) (answer : Answer) : Type 0 where
  pub words : List (List ℕ)
  pub is : IsAnswer words answer
  pub spelled : line ≡ join_with_byte 32 words

-- the parts between line feeds; an empty part after the last line feed is no line
abbrev pub ended_lines : List (List ℕ) → List (List ℕ)
ended_lines [] = []
ended_lines (part ∷ []) = if length part == 0 then [] else part ∷ []
ended_lines (part ∷ next ∷ parts) = part ∷ ended_lines (next ∷ parts)

-- the lines of a file, each ended by a line feed; the last may lack it
abbrev pub text_lines : List ℕ → List (List ℕ)
text_lines bytes = ended_lines (slice_split (λ b. b == 10) bytes)

-- each line is one answer, in order
abbrev pub AreAnswers : List (List ℕ) → List Answer → Type 0
AreAnswers [] [] = Unit {0}
AreAnswers [] (answer ∷ answers) = ⊥
AreAnswers (line ∷ lines) [] = ⊥
AreAnswers (line ∷ lines) (answer ∷ answers) = IsAnswerLine line answer × AreAnswers lines answers

-- the bytes of an operator's file with these answers; it is not too long
abbrev pub IsOperatorFile : List ℕ → List Answer → Type 0
IsOperatorFile bytes answers =
    (length bytes ≤ OPERATOR_LIMIT) × AreAnswers (text_lines bytes) answers

-- Line `number`, counted from 1, is the first that is no answer.
pub record IsFirstNonAnswer (lines : List (List ℕ)) (number : ℕ) : Type 0 where
  pub before : List (List ℕ)
  pub answers : List Answer
  pub line : List ℕ
  pub after : List (List ℕ)
  pub whole : lines ≡ before ++ line ∷ after
  pub counted : number ≡ length before + 1
  pub each : AreAnswers before answers
  pub no_answer : (answer : Answer) → IsAnswerLine line answer → ⊥

-- why a file was not read; that memory ran out says nothing of it
abbrev pub RefusesFile : List ℕ → OperatorFault → Type 0
RefusesFile bytes (faults.Line number) =
    ((OPERATOR_LIMIT < length bytes) × (number ≡ 0))
    ⊎ ((length bytes ≤ OPERATOR_LIMIT) × IsFirstNonAnswer (text_lines bytes) number)
RefusesFile bytes faults.NoMemory = Unit {0}
