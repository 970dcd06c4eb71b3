-- A run over the deaths of its process.
--
-- 1. A trace is in parts: each begins with an opening and has no other one. The process died before
--    the next part.
-- 2. The first part is legal from the table that the log stored when the run began, and each later
--    one from the table that it stored as the volume read before the first call of its opening.
-- 3. Where the volume is known and read tidy then, an opening finds what process death leaves of
--    the part before. So the whole trace is legal from that table.
use Rattle.std.specs.Prelude.{◌≡◌, ◌≤◌, ◌*◌, ◌⊎◌, ◌++◌, ℕ, Bool, true, false, List, [], ◌∷◌, Option}
use Rattle.std.specs.Prelude.{None}
use Rattle.std.specs.List.{AllByRecursion}
use Rattle.rg_base.specs.declared.control.Answer.{Answer}
use Rattle.rg_laws_utility.specs.Course.OnCourse.{IsOnCourse}
use Rattle.rg_desk.specs.Chronicle.{IsRecorded}
use Rattle.rg_desk.specs.Desk.{DeskState, LegalFrom, old_records}
use Rattle.rg_base.specs.Copies.{IsCopy}
use Rattle.rg_engine.specs.OnVolume.{IsSoundTidy, WasAllTidy}
use Rattle.rg_engine.specs.Stored.{IsStored}
use Rattle.rg_engine.specs.Volume.{HasCalls, WasTidy}
use Rattle.rg_outside.specs.Volume.{VolumeSeen}
use Rattle.rg_image.specs.Log.{log_of}
use Rattle.rg_image.specs.Rules.{limit_of}
use Rattle.rg_log.specs.Kept.{log_pages}
use Rattle.rg_model.specs.Committed.{committed_table}
use Rattle.rg_model.specs.Legal.{Legal}
use Rattle.rg_model.specs.Run.{Reopens, Run}
use Rattle.rg_model.specs.State.{State, Table, at_rest, row_count}
use Rattle.rg_outside.specs.Calls.{Told, read_of}
use Rattle.rg_outside.specs.Capacities.{Capacities}
use Rattle.rg_outside.specs.Faults.{Rose}
use Rattle.rg_outside.specs.Moments.{EachCall, EachImage, IfTold}
use Rattle.rg_page.specs.Content.{slots_of}
use Rattle.rg_record.specs.declared.record.Record.{Record}
use Rattle.rg_restart.specs.Sound.{IsDamage}
use Rattle.rg_stmt.specs.declared.event.Entry.{Entry}
use Rattle.rg_stmt.specs.declared.line.Line.{Line}
use Rattle.rg_stmt.specs.declared.line.Line.TheVariants.{Death}
use Rattle.rg_run.specs.Asked.{HasAnswered, answers_in}
use Rattle.rg_run.specs.Fit.{CountsAll, FailedSince, FitSince, calls_of_last}
use Rattle.rg_run.specs.Full.{AreAllowed, smaller_pages}
use Rattle.rg_run.specs.LogFull.{IsLogFullOnlyFrom}
use Rattle.rg_run.specs.Space.{AreForSpace}
use Rattle.rg_run.specs.Opening.{AreOpeningsSince, IfOpened, IsFoundThen, IsOpeningThen}
use Rattle.rg_run.specs.Outside.{IsDeviceOnlyIf, WritesOwn}
use Rattle.rg_run.specs.Played.{Goes, IsOpened, IsOpenedEntry, ShowsSecond, TraceOf, first_of}
use Rattle.rg_run.specs.declared.played.RunEnd.{RunEnd}
use Rattle.rg_run.specs.declared.played.RunEnd.TheVariants.{Whole, Down, Damaged, DeviceAtOpening}
use Rattle.rg_run.specs.declared.played.RunEnd.TheVariants.{NoMemory}

-- parts of a trace: the first is so from one of these tables, each later one from the table that
-- was found after the calls up to the last entry before it
pub data AreParts (First : Table → Type 0) (Found : (calls : ℕ) → Table → Type 0)
    (IsSo : Table → List Entry → Type 0) : List Entry → Type 0 where
  One : (part : List Entry) (start : Table) → First start → IsSo start part
      → AreParts First Found IsSo part
  Next : (before part : List Entry) (start : Table) → AreParts First Found IsSo before
      → Found (calls_of_last 0 before) start → IsSo start part
      → AreParts First Found IsSo (before ++ part)

-- a part begins with the entry of an opening, and has no other one
abbrev pub OpensOnce : List Entry → Type 0
OpensOnce [] = ⊥
OpensOnce (entry ∷ entries) =
    IsOpenedEntry entry × AllByRecursion (λ e. IfOpened ⊥ e.event) entries

-- a part is legal from this table
abbrev pub IsLegalPart : Table → List Entry → Type 0
IsLegalPart start part = Legal start part × OpensOnce part

-- A part is legal, its entries have allowed so many bytes before each FULL, and its utilities are
-- on course.
abbrev pub IsPart : (least : ℕ) → Table → List Entry → Type 0
IsPart least start part =
    Legal start part × AreAllowed least start part × IsOnCourse part × OpensOnce part

-- the table is the one that the log stored as the volume read after so many calls
abbrev pub IsFound : VolumeSeen → (calls : ℕ) → Table → Type 0
IsFound seen calls table =
    IfTold seen.told (λ t. IsFoundThen (log_pages seen.capacities) t.start calls t table)

-- it leads to this state from the table that these records store
pub record RunsFrom (old : List Record) (trace : List Entry) (last : State) : Type 0 where
  pub start : Table
  pub starts : IsStored old start
  pub copy : ℕ
  pub run : Run [] (at_rest start copy) trace last

-- the volume read tidy when the count began, and then this holds
abbrev pub IfTidy : VolumeSeen → Type 0 → Type 0
IfTidy seen P = IfTold seen.told (λ t. WasAllTidy seen.capacities t → P)

-- The entries before the opening of a desk lead to a state that process death leaves so: its table
-- is the one that the desk began with.
pub record Follows {V O : Type 0} (old : List Record) (older : List Entry) (base : DeskState V O)
    : Type 0 where
  pub last : State
  pub runs : RunsFrom old older last
  pub table : Table
  pub stored : IsStored (old_records base) table
  pub reopens : Reopens last base.first_copy (row_count table) (at_rest table base.first_copy)

-- the first entry opens copy 1 or 2
abbrev pub IsKnown : List Entry → Type 0
IsKnown [] = ⊥
IsKnown (entry ∷ entries) = (opened : IsOpenedEntry entry) × IsCopy opened.copy

-- the entries of a desk lead to this state from the table that it began with
pub record PartRun {V O : Type 0} (desk : DeskState V O) (last : State) : Type 0 where
  pub start : Table
  pub starts : IsStored (old_records desk) start
  pub run : Run [] (at_rest start desk.first_copy) desk.trace last

-- no opening of the run found damage
abbrev pub IsUndamaged : RunEnd → Type 0
IsUndamaged (Damaged set page) = ⊥
IsUndamaged (Whole rows) = Unit {0}
IsUndamaged Down = Unit {0}
IsUndamaged DeviceAtOpening = Unit {0}
IsUndamaged NoMemory = Unit {0}

-- whatever a crash leaves of the volume is sound and tidy, and no opening found damage
pub record StaysSound (capacities : Capacities) (t : Told) (end : RunEnd) : Type 0 where
  pub images : EachImage (IsSoundTidy capacities) t
  pub undamaged : IsUndamaged end

-- what a run has made so far of some first lines, since its first opening
pub record Made {V O : Type 0} (look : V → VolumeSeen) (first : DeskState V O) (lines : List Line)
    (trace : List Entry) (now : VolumeSeen) : Type 0 where
  pub entries : TraceOf lines trace
  pub begins : first_of trace ≡ first_of first.trace
  pub known : IsKnown trace
  pub parts :
      AreParts (IsStored (old_records first)) (IsFound now)
      (IsPart (3221 * smaller_pages now.capacities)) trace
  pub tidy : IfTidy now ((last : State) × RunsFrom (old_records first) trace last)
  pub count : ℕ
  pub recorded : IsRecorded trace count
  pub log_full : IsLogFullOnlyFrom (limit_of (log_pages now.capacities)) 0 trace
  pub space : AreForSpace now.capacities None trace
  pub device : IsDeviceOnlyIf (Rose (look first.volume).faults now.faults) trace
  pub calls : EachCall (look first.volume).told now.told (WritesOwn trace)
  pub later : (look first.volume).faults ≤ now.faults
  pub capacities : now.capacities ≡ (look first.volume).capacities
  pub openings :
      IfTold now.told (λ t. AreOpeningsSince now.capacities t.start t trace)
  pub fit : IfTold now.told (λ t. FitSince t.start t trace)
  pub second : ShowsSecond (slots_of first.contents) trace

-- the entries of a desk are legal and lead to a last state, and all of them can be those of a trace
pub record LeavesRun {V O : Type 0} (desk : DeskState V O) (trace : List Entry) : Type 0 where
  pub legal : LegalFrom (old_records desk) desk.trace
  pub count : ℕ
  pub recorded : IsRecorded trace count
  pub last : State
  pub part : PartRun desk last

-- a desk was opened after the process died, over the entries of some first lines
pub record Again {V O : Type 0} (look : V → VolumeSeen) (first base : DeskState V O)
    (lines back : List Line) : Type 0 where
  pub front : List Line
  pub joined : lines ≡ front ++ Death ∷ back
  pub made : Made look first front base.older (look base.volume)
  pub follows : IfTidy (look base.volume) (Follows (old_records first) base.older base)

-- the desk of the first opening, or one that was opened again
abbrev pub Came :
    {V O : Type 0} → (look : V → VolumeSeen) → (first base : DeskState V O)
    → (lines back : List Line) → Type 0
Came look first base lines back =
    ((base ≡ first) × (first.older ≡ []) × (lines ≡ back)) ⊎ Again look first base lines back

-- the process does not die in this line
abbrev pub IsAlive : Line → Type 0
IsAlive Death = ⊥
IsAlive line = Unit {0}

-- a run of some first lines, which led to this desk
pub record Going {V O : Type 0} (look : V → VolumeSeen) (answers : O → Option (List Answer))
    (first : DeskState V O) (lines : List Line) (desk : DeskState V O) : Type 0 where
  pub base : DeskState V O
  pub back : List Line
  pub goes : Goes look answers base back desk
  pub opened : IsOpened base
  pub opening :
      IfTold (look base.volume).told
      (λ t. IsOpeningThen (look base.volume).capacities t.start (calls_of_last 0 base.older) t
      opened.entry)
  pub found :
      (start : Table) → IsStored (old_records base) start
      → IsFound (look base.volume) (calls_of_last 0 base.older) start
  pub alive : AllByRecursion IsAlive back
  pub counted : HasCalls (look base.volume) 0
  pub log_room : base.ground.log.pages ≡ log_pages (look base.volume).capacities
  pub came : Came look first base lines back
  pub asked :
      HasAnswered (answers first.operator) (answers_in base.older) (answers base.operator)

-- the process dies in one of these lines
abbrev pub DiesIn : List Line → Type 0
DiesIn lines = (front : List Line) × (rest : List Line) × (lines ≡ front ++ Death ∷ rest)

-- The last part of the trace of these lines leads to this state, which is up or down, from the
-- table that its opening found. So does the whole trace, where the volume read tidy. There is no
-- other part where the process does not die. Up to the last entry all calls were made.
pub record LastPart (old : List Record) (seen : VolumeSeen) (lines : List Line)
    (trace : List Entry) (down : Bool) (last : State) : Type 0 where
  pub before : List Entry
  pub part : List Entry
  pub joined : trace ≡ before ++ part
  pub once : OpensOnce part
  pub start : Table
  pub found : IsFound seen (calls_of_last 0 before) start
  pub copy : ℕ
  pub run : Run [] (at_rest start copy) part last
  pub is : last.down ≡ down
  pub alone : (before ≡ []) ⊎ DiesIn lines
  pub whole : before ≡ [] → IsStored old start
  pub tidy : IfTidy seen (RunsFrom old trace last)
  pub counted : IfTold seen.told (λ t. CountsAll t.start t trace)

-- The last state is up, with so many committed rows, which whatever a crash leaves of the volume
-- stores.
pub record EndsUp (old : List Record) (pages : ℕ) (seen : VolumeSeen) (lines : List Line)
    (trace : List Entry) (rows : ℕ) : Type 0 where
  pub last : State
  pub ends : LastPart old seen lines trace false last
  pub rows_are : rows ≡ row_count (committed_table last)
  pub stored :
      IfTold seen.told (λ t. WasTidy pages t
      → EachImage (λ i. IsStored (log_of pages i) (committed_table last)) t)

-- the next of these lines is the death of the process
abbrev pub IsAtDeath : List Line → Type 0
IsAtDeath rest = (lines : List Line) × (rest ≡ Death ∷ lines)

-- how a run ends that has made the entries of some lines, and has others left
abbrev pub RunEnds :
    (old : List Record) → (pages : ℕ) → VolumeSeen → (front rest : List Line) → List Entry
    → RunEnd → Type 0
RunEnds old pages seen front rest trace (Whole rows) =
    (rest ≡ []) × EndsUp old pages seen front trace rows
RunEnds old pages seen front rest trace Down =
    (rest ≡ []) × (last : State) × LastPart old seen front trace true last
RunEnds old pages seen front rest trace (Damaged set page) =
    IsAtDeath rest
    × IfTold seen.told (λ t. IsDamage seen.capacities (read_of t.first t.calls) set page)
RunEnds old pages seen front rest trace DeviceAtOpening = IsAtDeath rest
RunEnds old pages seen front rest trace NoMemory = Unit {0}

-- the device ended it
abbrev pub IsFailed : RunEnd → Type 0
IsFailed (Whole rows) = ⊥
IsFailed Down = Unit {0}
IsFailed (Damaged set page) = ⊥
IsFailed DeviceAtOpening = Unit {0}
IsFailed NoMemory = ⊥

-- where an opening ended it that the device brought about, this holds
abbrev pub IfAtOpening : RunEnd → Type 0 → Type 0
IfAtOpening DeviceAtOpening P = P
IfAtOpening end P = Unit {0}

-- what a run leaves whose first desk was this one
pub record IsRun {V O : Type 0}
    (look : V → VolumeSeen) (answers : O → Option (List Answer)) (first : DeskState V O)
    (lines : List Line) (seen : VolumeSeen) (operator : O) (trace : List Entry) (end : RunEnd)
    : Type 0 where
  pub front : List Line
  pub rest : List Line
  pub joined : lines ≡ front ++ rest
  pub made : Made look first front trace seen
  pub ends : RunEnds (old_records first) (log_pages seen.capacities) seen front rest trace end
  pub failed : IsFailed end → Rose (look first.volume).faults seen.faults
  pub after :
      IfAtOpening end (IfTold seen.told (λ t. FailedSince t.start (calls_of_last 0 trace) t))
  pub sound :
      IfTold seen.told (λ t. WasAllTidy seen.capacities t → StaysSound seen.capacities t end)
  pub asked : HasAnswered (answers first.operator) (answers_in trace) (answers operator)
