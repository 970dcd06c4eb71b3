-- What the run of a deck leaves.
use Rattle.std.specs.Prelude.{◌≡◌, ◌≤◌, ◌*◌, ℕ, true, false, List, [], ◌∷◌, ◌++◌, Option, Some}
use Rattle.std.specs.Prelude.{None}
use Rattle.std.specs.Prelude.{IfSome, is_some}
use Rattle.std.specs.List.{AllZip}
use Rattle.rg_base.specs.Session.{IsSession}
use Rattle.rg_base.specs.declared.control.Answer.{Answer}
use Rattle.rg_base.specs.declared.options.Options.{Options}
use Rattle.rg_stmt.specs.declared.event.Entry.{Entry}
use Rattle.rg_stmt.specs.declared.event.Event.{Event}
use Rattle.rg_stmt.specs.declared.event.Event.TheVariants as events
use Rattle.rg_stmt.specs.declared.line.Line.{Line}
use Rattle.rg_stmt.specs.declared.line.Line.TheVariants.{Said, Reorg, Step, Flush, Show, Death}
use Rattle.rg_stmt.specs.declared.stmt.Reply.{Reply}
use Rattle.rg_stmt.specs.Entries.{opened_entry, said_entry}
use Rattle.rg_desk.specs.Chronicle.{system_entry}
use Rattle.rg_desk.specs.Desk.{DeskState, old_records}
use Rattle.rg_engine.specs.Layouts.{IsLayout, ShowsSideOf}
use Rattle.rg_engine.specs.OnVolume.{AreClean}
use Rattle.rg_home.specs.Slot.{Slot}
use Rattle.rg_page.specs.Content.{slots_of}
use Rattle.rg_base.specs.Copies.{IsCopy, set_of}
use Rattle.rg_desk.specs.Desk.{is_reply}
use Rattle.rg_laws_utility.specs.Course.Loading.{IsLoaded, loading_in, loading_of}
use Rattle.rg_engine.specs.Stored.{IsStored}
use Rattle.rg_engine.specs.Volume.{IsCount}
use Rattle.rg_outside.specs.Volume.{VolumeSeen}
use Rattle.rg_model.specs.State.{Table}
use Rattle.rg_feed.specs.declared.fold.item.Stage.{Stage}
use Rattle.rg_rules.specs.Stage.NumbersOf.{numbers_of}
use Rattle.rg_outside.specs.Faults.{Rose}
use Rattle.rg_engine.specs.Flushed.{WritesEither}
use Rattle.rg_outside.specs.Calls.{Call}
use Rattle.rg_outside.specs.Moments.{EachCall, IfTold}
use Rattle.rg_image.specs.Rules.{limit_of}
use Rattle.rg_phase.specs.Step.{is_made}
use Rattle.rg_laws_utility.specs.TraceStage.Tending.{utility_entry}
use Rattle.rg_run.specs.Asked.{HasAnswered, answers_in}
use Rattle.rg_run.specs.Fit.{FitSince, calls_of_last, known_of, unopened}
use Rattle.rg_run.specs.Full.{AreAllowed, smaller_pages}
use Rattle.rg_run.specs.LogFull.{IsLogFullOnlyFrom}
use Rattle.rg_run.specs.Space.{AreForSpace}
use Rattle.rg_run.specs.Outside.{IsDeviceOnlyIf, WritesOwn}

-- each line is played; the session of a statement is one that there is
abbrev pub IsPlayed : Line → Type 0
IsPlayed (Said session stmt) = IsSession session
IsPlayed (Reorg options) = Unit {0}
IsPlayed Step = Unit {0}
IsPlayed Flush = Unit {0}
IsPlayed Show = Unit {0}
IsPlayed Death = Unit {0}

-- the entry of an opening
pub record IsOpenedEntry (entry : Entry) : Type 0 where
  pub copy : ℕ
  pub rows : ℕ
  pub pages : ℕ
  pub used : ℕ
  pub is : entry ≡ opened_entry copy rows pages used entry.calls

-- a page was written, or none was to be written or could be
abbrev pub IsFlushed : Event → Type 0
IsFlushed (events.Flush page) = Unit {0}
IsFlushed events.Clean = Unit {0}
IsFlushed events.FlushDevice = Unit {0}
IsFlushed events.FlushDown = Unit {0}
IsFlushed events.FlushNoMemory = Unit {0}
IsFlushed event = ⊥

-- a utility started with these options, or it is said why none did
abbrev pub IsStartEvent : Options → Event → Type 0
IsStartEvent options (events.Started given copy pages) = given ≡ options
IsStartEvent options events.Active = Unit {0}
IsStartEvent options (events.StartLogFull need left) = Unit {0}
IsStartEvent options events.StartDown = Unit {0}
IsStartEvent options events.StartNoMemory = Unit {0}
IsStartEvent options event = ⊥

-- a step found no utility, or the desk down, and nobody was asked; or it is the event of a utility
-- that runs, by the operator's answer
abbrev pub IsStepEvent : Option Answer → Event → Type 0
IsStepEvent None events.Idle = Unit {0}
IsStepEvent None events.StepDown = Unit {0}
IsStepEvent None event = ⊥
IsStepEvent (Some answer) event = is_made event ≡ true

-- The entry of a line has its session and its statement, and a reply; or it is a layout or a flush,
-- or says that there is none; or it is that of an opening, after the process died; or it is one of
-- the utility. The operator is asked for a step alone.
abbrev pub EntryOf : Line → Entry → Type 0
EntryOf (Said session stmt) entry =
    (reply : Reply) × (entry ≡ said_entry session stmt reply entry.calls)
    × (is_reply stmt reply ≡ true)
EntryOf Show entry =
    (copy : ℕ) × (event : Event) × (entry ≡ system_entry event entry.calls)
    × IsLayout copy event
EntryOf (Reorg options) entry =
    (event : Event) × (entry ≡ utility_entry event None entry.calls) × IsStartEvent options event
EntryOf Step entry =
    (answer : Option Answer) × (event : Event)
    × (entry ≡ utility_entry event answer entry.calls) × IsStepEvent answer event
EntryOf Flush entry =
    (event : Event) × (entry ≡ system_entry event entry.calls) × IsFlushed event
EntryOf Death entry = IsOpenedEntry entry

-- entry 0 is that of an opening, and then there is one entry for each line
abbrev pub TraceOf : List Line → List Entry → Type 0
TraceOf lines [] = ⊥
TraceOf lines (entry ∷ entries) = IsOpenedEntry entry × AllZip EntryOf lines entries

-- the trace of some first lines
abbrev pub TraceOfFront : List Line → List Entry → Type 0
TraceOfFront lines trace =
    (front : List Line) × (rest : List Line) × (lines ≡ front ++ rest) × TraceOf front trace

-- the entry of the opening
abbrev pub first_of : List Entry → Option Entry
first_of [] = None
first_of (entry ∷ entries) = Some entry

-- What the lines since a desk was opened leave as it was. They made only such calls as its entries
-- allow.
pub record StaysSince {V O : Type 0} (look : V → VolumeSeen) (first desk : DeskState V O) : Type 0
  where
    pub older : desk.older ≡ first.older
    pub log_pages : desk.ground.log.pages ≡ first.ground.log.pages
    pub opened : desk.opened ≡ first.opened
    pub first_copy : desk.first_copy ≡ first.first_copy
    pub old_same : old_records desk ≡ old_records first
    pub only : EachCall (look first.volume).told (look desk.volume).told (WritesOwn desk.trace)
    pub later : (look first.volume).faults ≤ (look desk.volume).faults
    pub capacities : (look desk.volume).capacities ≡ (look first.volume).capacities

-- these entries allow the calls that write the set of a copy
abbrev pub AllowsCopy : List Entry → (copy : ℕ) → Type 0
AllowsCopy entries copy = (call : Call) → WritesEither (set_of copy) call → WritesOwn entries call

-- The numbers of a utility that has not switched show how far the new copy is filled, as the
-- entries tell. All rows are reloaded once a list is sorted.
abbrev pub ShowsLoading : Option Stage → (copy : ℕ) → List Entry → Type 0
ShowsLoading stage copy entries =
    IfSome stage (λ s.
    s.switched ≡ false
    → (loading_in None entries ≡ loading_of copy (numbers_of s)) × IsLoaded (numbers_of s))

-- there is no entry but the first
abbrev pub IsAlone : List Entry → Type 0
IsAlone [] = ⊥
IsAlone (entry ∷ []) = Unit {0}
IsAlone (entry ∷ next ∷ entries) = ⊥

-- if the second entry is a layout, it is that of these pages
abbrev pub ShowsSecond : (pages : List (List Slot)) → List Entry → Type 0
ShowsSecond pages [] = Unit {0}
ShowsSecond pages (entry ∷ []) = Unit {0}
ShowsSecond pages (entry ∷ next ∷ entries) = ShowsSideOf pages next.event

-- the lines so far since a desk was opened
pub record Goes {V O : Type 0}
    (look : V → VolumeSeen) (answers : O → Option (List Answer)) (first : DeskState V O)
    (lines : List Line) (desk : DeskState V O) : Type 0 where
  pub entries : TraceOf lines desk.trace
  pub begins : first_of desk.trace ≡ first_of first.trace
  pub full :
      (start : Table) → IsStored (old_records desk) start
      → AreAllowed (3221 * smaller_pages (look desk.volume).capacities) start desk.trace
  pub log_full : IsLogFullOnlyFrom (limit_of desk.ground.log.pages) 0 desk.trace
  pub space : AreForSpace (look desk.volume).capacities None desk.trace
  pub loading : ShowsLoading desk.stage desk.copy desk.trace
  pub device :
      IsDeviceOnlyIf (Rose (look first.volume).faults (look desk.volume).faults) desk.trace
  pub down : desk.down ≡ true → Rose (look first.volume).faults (look desk.volume).faults
  pub fit :
      IfTold (look desk.volume).told (λ t. FitSince t.start t desk.trace)
  pub copy_is : (known_of unopened desk.trace).copy ≡ desk.copy
  pub clean :
      (known_of unopened desk.trace).clean ≡ true → desk.down ≡ false
      → AreClean desk.contents desk.marks
  pub first_pages : IsAlone desk.trace → desk.contents ≡ first.contents
  pub shown : ShowsSecond (slots_of first.contents) desk.trace
  pub counted : IsCount (look desk.volume) (calls_of_last 0 desk.trace)
  pub asked :
      HasAnswered (answers first.operator) (answers_in desk.trace) (answers desk.operator)
  pub room : smaller_pages (look desk.volume).capacities ≤ desk.ground.capacity
  pub own : AllowsCopy desk.trace desk.copy
  pub both :
      is_some desk.stage ≡ true → (copy : ℕ) → IsCopy copy → AllowsCopy desk.trace copy
  pub stays : StaysSince look first desk

-- a desk whose trace is that of its opening, and which is up
pub record IsOpened {V O : Type 0} (desk : DeskState V O) : Type 0 where
  pub entry : Entry
  pub is : IsOpenedEntry entry
  pub trace : desk.trace ≡ entry ∷ []
  pub up : desk.down ≡ false
