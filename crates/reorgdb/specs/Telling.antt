-- What is told of a run.
-- (1) `play` prints the trace, and `judge` prints it with brief layouts.
-- (2) After the print of `judge` a line says that the trace is legal, or which of its entries, by
--     its number, is the first that is not.
-- (3) `gen` gives the line that sums up the run.
use Rattle.std.specs.Prelude.{ℕ, ◌≡◌, List, ◌++◌, false, Option, Some, None, codes}
use Rattle.std.specs.Fmt.{decimal}
use Rattle.std.specs.Option.{is_none}
use Rattle.rg_outside.specs.Volume.{VolumeSeen}
use Rattle.rg_gen.specs.Summary.{summary_text}
use Rattle.rg_print.specs.Print.{print_text}
use Rattle.rg_print.specs.declared.print.Close.{Close}
use Rattle.rg_run.specs.Judged.{IsVerdict, RefusesNone}
use Rattle.rg_stmt.specs.declared.event.Entry.{Entry}
use Rattle.reorgdb.specs.declared.telling.Tells.{Tells}
use Rattle.reorgdb.specs.declared.telling.Tells.TheVariants.{Print, Verdict, Summary}

-- the line of the judge
abbrev pub judge_text : Option ℕ → List ℕ
judge_text None = codes "JUDGE legal\n"
judge_text (Some entry) = codes "JUDGE entry " ++ decimal entry ++ codes "\n"

-- the text of a run that was played, by what the judge says of its trace
abbrev pub run_text : Tells → List Entry → Close → Option ℕ → List ℕ
run_text (Print full) trace close verdict = print_text trace full close
run_text Verdict trace close verdict = print_text trace false close ++ judge_text verdict
run_text (Summary seed rows) trace close verdict =
    summary_text seed rows trace (is_none verdict)

-- The judge says this of the trace, from the table that the log stored when the call began. It
-- refuses no entry if the volume read tidy then.
abbrev pub IsOfJudge : (old new : VolumeSeen) → List Entry → Option ℕ → Type 0
IsOfJudge old new trace verdict = IsVerdict old new trace verdict × RefusesNone old new verdict

-- what is told of the judge is what it says; a print tells nothing of it
abbrev pub IsTold : Tells → (old new : VolumeSeen) → List Entry → Option ℕ → Type 0
IsTold (Print full) old new trace verdict = Unit {0}
IsTold Verdict old new trace verdict = IsOfJudge old new trace verdict
IsTold (Summary seed rows) old new trace verdict = IsOfJudge old new trace verdict

-- the text is that of a run which closes so
pub record TellsRun (tells : Tells) (old new : VolumeSeen) (trace : List Entry) (close : Close)
    (text : List ℕ) : Type 0 where
  pub verdict : Option ℕ
  pub told : IsTold tells old new trace verdict
  pub is : text ≡ run_text tells trace close verdict
