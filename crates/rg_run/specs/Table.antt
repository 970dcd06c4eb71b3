-- From which table a run begins, and what its volume stores at the end.
--
-- 1. The table at the opening is the one that the log stored as it read when the run began, and
--    entry 0 has its copy, its pages, its rows, and the bytes of the log that are used.
-- 2. So has each later opening, of the log as the volume read at its entry's number of calls. At
--    each opening it read sound.
-- 3. If the volume read tidy when the run began, the whole trace is legal from that table, over the
--    deaths of its process. Else this holds of the part before the first death, and each later part
--    is legal from the table that the log stored as the volume read at its opening. From these
--    tables FULL and STOP NOSPACE come only where the entries have allowed so many bytes.
-- 4. A run that ends up leaves a volume that stores the committed rows of its last state, whatever
--    a crash leaves then, if the log read tidy when the run began.
-- 5. If the volume read tidy when the run began, whatever a crash leaves of it at the end is sound
--    and tidy, once an opening has succeeded.
-- 6. The entry of a flush has the page that its last call wrote. Where the entry says that no page
--    was to be written, it made no call. Where an entry says DEVICE, a call has failed since the
--    entry before.
-- 7. In each part a utility is caught up at its switch, and one that nothing hinders ends in time.
-- 8. All of this is said of a known volume while its calls can be counted.
use Rattle.std.specs.Prelude.{◌≡◌, ◌⊎◌, ◌*◌, ◌++◌, ℕ, Bool, true, false, List, [], ◌∷◌, length}
use Rattle.rg_laws_utility.specs.Course.OnCourse.{IsOnCourse}
use Rattle.rg_desk.specs.Desk.{LegalFrom}
use Rattle.rg_engine.specs.OnVolume.{IsSoundTidy, IsTidyVolume}
use Rattle.rg_engine.specs.Stored.{IsStored}
use Rattle.rg_outside.specs.Volume.{VolumeSeen}
use Rattle.rg_image.specs.Log.{log_of}
use Rattle.rg_image.specs.Rules.{IsTidyLog}
use Rattle.rg_log.specs.Kept.{log_pages}
use Rattle.rg_model.specs.Committed.{committed_table}
use Rattle.rg_model.specs.Run.{Run}
use Rattle.rg_model.specs.State.{State, Table, at_rest, row_count}
use Rattle.rg_outside.specs.Calls.{read_of}
use Rattle.rg_outside.specs.Moments.{EachImage}
use Rattle.rg_record.specs.declared.record.Record.{Record}
use Rattle.rg_stmt.specs.declared.event.Entry.{Entry}
use Rattle.rg_stmt.specs.declared.line.Line.{Line}
use Rattle.rg_run.specs.Fit.{CountsAll, FitSince, calls_of_last}
use Rattle.rg_run.specs.Opening.{AreOpeningsSince, IsFoundThen, IsOpeningOf}
use Rattle.rg_run.specs.Outside.{IfBoth, log_at}
use Rattle.rg_stmt.specs.declared.line.Line.TheVariants.{Death}
use Rattle.rg_run.specs.Full.{smaller_pages}
use Rattle.rg_run.specs.Parts.{AreParts, DiesIn, IsLegalPart, IsPart, OpensOnce, RunsFrom}
use Rattle.rg_run.specs.Played.{TraceOf, TraceOfFront}
use Rattle.rg_run.specs.declared.played.RunEnd.{RunEnd}
use Rattle.rg_run.specs.declared.played.RunEnd.TheVariants.{Whole, Down, Damaged, DeviceAtOpening}
use Rattle.rg_run.specs.declared.played.RunEnd.TheVariants.{NoMemory}

-- the table is the one that the log stored
abbrev pub Begins : (old new : VolumeSeen) → Table → Type 0
Begins old new start =
    IfBoth old.told new.told (λ before t. IsStored (log_at (log_pages old.capacities) before) start)

-- the log as it read then, of a volume that read tidy
abbrev pub IfBegunTidy : (old new : VolumeSeen) → (List Record → Type 0) → Type 0
IfBegunTidy old new P =
    IfBoth old.told new.told (λ before t.
    IsTidyVolume old.capacities (read_of before.first before.calls)
    → P (log_at (log_pages old.capacities) before))

-- the table is the one that the log stored as the volume read after so many calls of the run
abbrev pub Finds : (old new : VolumeSeen) → (calls : ℕ) → Table → Type 0
Finds old new calls table =
    IfBoth old.told new.told (λ before t.
    IsFoundThen (log_pages old.capacities) (length before.calls) calls t table)

-- The first part is legal from that table, and each later part from the one that its opening found:
-- the trace is cut at each opening. If the volume read tidy, the whole trace is legal from the
-- first table.
abbrev pub IsLegalRun : (old new : VolumeSeen) → List Entry → Type 0
IsLegalRun old new [] = Unit {0}
IsLegalRun old new (entry ∷ entries) =
    AreParts (Begins old new) (Finds old new) IsLegalPart (entry ∷ entries)
    × IfBegunTidy old new (λ records. LegalFrom records (entry ∷ entries))

-- From these tables, the entries of each part have allowed so many bytes for each page of the
-- smaller copy before a FULL, and before a STOP NOSPACE once a list is sorted.
abbrev pub IsAllowedRun : (per_page : ℕ) → (old new : VolumeSeen) → List Entry → Type 0
IsAllowedRun per_page old new [] = Unit {0}
IsAllowedRun per_page old new (entry ∷ entries) =
    AreParts (Begins old new) (Finds old new) (IsPart (per_page * smaller_pages old.capacities))
    (entry ∷ entries)

-- in each part utilities are caught up at their switches, and end in time
abbrev pub IsRunOnCourse : (old new : VolumeSeen) → List Entry → Type 0
IsRunOnCourse old new [] = Unit {0}
IsRunOnCourse old new (entry ∷ entries) =
    AreParts (Begins old new) (Finds old new) (λ start part. IsOnCourse part × OpensOnce part)
    (entry ∷ entries)

-- entry 0 is that of the opening of this log, if there is an entry
abbrev pub OpensLog : List Record → List Entry → Type 0
OpensLog records [] = Unit {0}
OpensLog records (entry ∷ entries) = IsOpeningOf records entry

-- entry 0 is that of the opening of the log as it read when the run began
abbrev pub IsOpening : (old new : VolumeSeen) → List Entry → Type 0
IsOpening old new trace =
    IfBoth old.told new.told
    (λ before t. OpensLog (log_at (log_pages old.capacities) before) trace)

-- each opening is that of the log as the volume read before the opening's first call: entry 0, and
-- each entry after a death
abbrev pub AreOpenings : (old new : VolumeSeen) → List Entry → Type 0
AreOpenings old new trace =
    IfBoth old.told new.told (λ before t.
    AreOpeningsSince old.capacities (length before.calls) t trace)

-- each entry fits the calls that were made for it
abbrev pub FitCalls : (old new : VolumeSeen) → List Entry → Type 0
FitCalls old new trace =
    IfBoth old.told new.told (λ before t. FitSince (length before.calls) t trace)

-- The last part begins with the last opening, and leads to this state, which is up or down, from
-- the table that the opening found. If the process does not die in these lines, the trace has no
-- other part, and that table is the first one. If the volume read tidy, the whole trace leads to
-- that state from the first table. Up to the last entry all calls were made.
pub record EndsAt (old new : VolumeSeen) (lines : List Line) (trace : List Entry) (down : Bool)
    (last : State) : Type 0 where
  pub before : List Entry
  pub part : List Entry
  pub joined : trace ≡ before ++ part
  pub once : OpensOnce part
  pub start : Table
  pub found : Finds old new (calls_of_last 0 before) start
  pub copy : ℕ
  pub run : Run [] (at_rest start copy) part last
  pub is : last.down ≡ down
  pub alone : (before ≡ []) ⊎ DiesIn lines
  pub whole : before ≡ [] → Begins old new start
  pub tidy : IfBegunTidy old new (λ records. RunsFrom records trace last)
  pub counted :
      IfBoth old.told new.told (λ before t. CountsAll (length before.calls) t trace)

-- Where there is an entry the first opening succeeded. If the volume read tidy when the run began,
-- whatever a crash leaves of it at the end is sound and tidy.
abbrev pub KeepsSound : (old new : VolumeSeen) → List Entry → Type 0
KeepsSound old new [] = Unit {0}
KeepsSound old new (entry ∷ entries) =
    IfBoth old.told new.told (λ before t.
    IsTidyVolume old.capacities (read_of before.first before.calls)
    → EachImage (IsSoundTidy new.capacities) t)

-- a state that is up, with so many committed rows, which whatever a crash leaves stores
pub record EndsWhole (old new : VolumeSeen) (lines : List Line) (trace : List Entry) (rows : ℕ)
    : Type 0 where
  pub last : State
  pub ends : EndsAt old new lines trace false last
  pub rows_are : rows ≡ row_count (committed_table last)
  pub stored :
      IfBoth old.told new.told (λ before t.
      IsTidyLog (log_pages old.capacities) (read_of before.first before.calls)
      → EachImage (λ i. IsStored (log_of (log_pages old.capacities) i) (committed_table last)) t)

-- it leads to a state that is down
abbrev pub EndsAtDown : (old new : VolumeSeen) → List Line → List Entry → Type 0
EndsAtDown old new lines trace = (last : State) × EndsAt old new lines trace true last

-- the trace of the lines before a death, or none: an opening was refused
abbrev pub EndsAtOpening : List Line → List Entry → Type 0
EndsAtOpening lines trace =
    (trace ≡ [])
    ⊎ ((front : List Line) × (rest : List Line) × (lines ≡ front ++ Death ∷ rest)
    × TraceOf front trace)

-- A whole run has an entry for each line, and ends up or down. One that was refused at an opening
-- has those of the lines before it. One that ran out of memory has those of some first lines, or
-- none at all.
abbrev pub Ends : (old new : VolumeSeen) → List Line → List Entry → RunEnd → Type 0
Ends old new lines trace (Whole rows) = TraceOf lines trace × EndsWhole old new lines trace rows
Ends old new lines trace Down = TraceOf lines trace × EndsAtDown old new lines trace
Ends old new lines trace (Damaged set page) = EndsAtOpening lines trace
Ends old new lines trace DeviceAtOpening = EndsAtOpening lines trace
Ends old new lines trace NoMemory = (trace ≡ []) ⊎ TraceOfFront lines trace
