-- What is said of the judge's answer on the trace of a run.
--
-- 1. The judge starts from the table that the log stored as the volume read when the run began.
-- 2. If the volume read tidy then, no entry is refused.
-- 3. Where memory ran out nothing is said.
use Rattle.std.specs.Prelude.{◌≡◌, ◌⊎◌, ℕ, List, [], ◌∷◌, Option, None, Result, Ok}
use Rattle.rg_base.specs.declared.no_memory.NoMemory.{NoMemory as WantsMemory}
use Rattle.rg_engine.specs.OnVolume.{IsTidyVolume}
use Rattle.rg_outside.specs.Volume.{VolumeSeen}
use Rattle.rg_judge.specs.Refused.{IsJudged}
use Rattle.rg_model.specs.State.{Table}
use Rattle.rg_outside.specs.Calls.{read_of}
use Rattle.rg_stmt.specs.declared.event.Entry.{Entry}
use Rattle.rg_run.specs.Outside.{IfBoth}
use Rattle.rg_run.specs.Table.{Begins}
use Rattle.rg_run.specs.declared.played.RunEnd.{RunEnd}
use Rattle.rg_run.specs.declared.played.RunEnd.TheVariants.{NoMemory}

-- it is the judge's from that table, if there is an entry
abbrev pub IsVerdict : (old new : VolumeSeen) → List Entry → Option ℕ → Type 0
IsVerdict old new [] verdict = verdict ≡ None
IsVerdict old new (entry ∷ entries) verdict =
    (start : Table) × Begins old new start × IsJudged start (entry ∷ entries) verdict

-- no entry is refused
abbrev pub RefusesNone : (old new : VolumeSeen) → Option ℕ → Type 0
RefusesNone old new verdict =
    IfBoth old.told new.told (λ before t.
    IsTidyVolume old.capacities (read_of before.first before.calls) → verdict ≡ None)

abbrev pub JudgesRun : (old new : VolumeSeen) → List Entry → RunEnd → Option ℕ → Type 0
JudgesRun old new trace NoMemory verdict = Unit {0}
JudgesRun old new trace end verdict = IsVerdict old new trace verdict × RefusesNone old new verdict

-- The trace of a run was judged from this table; or there was no memory for the table, or for the
-- judge, and the run ends so.
abbrev pub Settles :
    Result Table WantsMemory → List Entry → (old new : RunEnd) → Option ℕ → Type 0
Settles start trace old new verdict =
    (new ≡ NoMemory)
    ⊎ ((new ≡ old) × (table : Table) × (start ≡ Ok table) × IsJudged table trace verdict)
