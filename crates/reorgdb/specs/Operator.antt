-- Which operator `main` takes, by what was found of the operator's file.
use Rattle.std.specs.Prelude.{ℕ, ◌≡◌, List, Option, Some, None, Result, Ok, Err}
use Rattle.std.specs.declared.alloc.Global.{Global}
use Rattle.std.specs.declared.vec.Vec.{Vec}
use Rattle.rg_file.specs.declared.reading.FileFault.{FileFault}
use Rattle.rg_file.specs.declared.reading.FileFault.TheVariants as files
use Rattle.rg_file.specs.Pages.{IsShort}
use Rattle.rg_mem.specs.Script.{Script}
use Rattle.rg_opts.specs.Operator.{IsOperatorFile, RefusesFile}
use Rattle.rg_opts.specs.declared.operator.OperatorFault.TheVariants as faults
use Rattle.reorgdb.specs.declared.edge.Refusal.{Refusal}
use Rattle.reorgdb.specs.declared.edge.Refusal.TheVariants as refusals

-- the operator has the answers of these bytes, and was not asked yet
abbrev pub IsScriptOf : List ℕ → Script → Type 0
IsScriptOf bytes operator =
    IsOperatorFile bytes operator.lines × (operator.asks ≡ 0) × (operator.left ≡ 0)

-- why there is no operator of these bytes; that memory ran out says nothing of them
abbrev pub RefusesScript : List ℕ → Refusal → Type 0
RefusesScript bytes (refusals.OperatorLine line) = RefusesFile bytes (faults.Line line)
RefusesScript bytes refusals.OperatorFile = ⊥
RefusesScript bytes refusals.SizesFile = ⊥
RefusesScript bytes refusals.SizesUnread = ⊥
RefusesScript bytes (refusals.VolumeBusy sizes) = ⊥
RefusesScript bytes (refusals.VolumeShort sizes length) = ⊥
RefusesScript bytes refusals.NoMemory = Unit {0}

-- the length that a refusal names is that of a file that was cut
abbrev pub NamesShort : Refusal → Type 0
NamesShort (refusals.VolumeShort sizes length) = IsShort sizes length
NamesShort refusal = Unit {0}

-- What is chosen by what was found. Where there is no file no operator of one is, and `main` takes
-- that of the clock.
abbrev pub Chooses :
    Result (Option (Vec ℕ Global)) FileFault → Result (Option Script) Refusal → Type 0
Chooses (Ok None) chosen = chosen ≡ Ok None
Chooses (Ok (Some bytes)) (Ok None) = ⊥
Chooses (Ok (Some bytes)) (Ok (Some operator)) = IsScriptOf bytes.items operator
Chooses (Ok (Some bytes)) (Err refusal) = RefusesScript bytes.items refusal
Chooses (Err files.Failed) chosen = chosen ≡ Err refusals.OperatorFile
Chooses (Err files.NoMemory) chosen = chosen ≡ Err refusals.NoMemory
