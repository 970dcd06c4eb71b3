-- A run goes on by one line.
use Rattle.std.proofs.Common.{◌≡◌, ◌==◌, ◌≤◌, ◌⊎◌, inl, inr, ◌||◌, ◌*◌, ℕ, Bool, true, false, List}
use Rattle.std.proofs.Common.{[], ◌∷◌, ◌++◌, Option, Some, None, if◌then◌else◌, length, refl, sym}
use Rattle.std.proofs.Common.{◌∙◌, ap, subst, arith, IfSome}
use Rattle.std.specs.List.{AllZip}
use Rattle.std.specs.Option.{is_some}
use Rattle.rg_base.specs.declared.control.Answer.{Answer}
use Rattle.rg_base.specs.declared.options.Options.{Options}
use Rattle.rg_base.specs.declared.session.Session.{Session}
use Rattle.rg_base.specs.declared.verdict.StopReason.TheVariants as reasons
use Rattle.rg_feed.specs.declared.fold.item.Stage.{Stage}
use Rattle.rg_log.specs.Kept.{Listed as ListedLog}
use Rattle.rg_phase.specs.declared.made.Made.{Made}
use Rattle.rg_phase.specs.Step.{HasPagesFor, IsSwitchFrom, KeepsPages, Makes, NextMade, StepCalls}
use Rattle.rg_phase.specs.Step.{Stepped, TellsCopy, copy_left, is_device_stop}
use Rattle.rg_laws_utility.specs.TraceStage.Tending.{utility_entry}
use Rattle.rg_base.specs.declared.position.Position.{Position}
use Rattle.rg_page.specs.Content.{Content, content_at, slots_of}
use Rattle.rg_home.specs.Slot.{Slot}
use Rattle.rg_stmt.specs.declared.layout.Side.{Side}
use Rattle.rg_stmt.specs.declared.event.Entry.{Entry}
use Rattle.rg_stmt.specs.declared.event.Event.{Event}
use Rattle.rg_stmt.specs.declared.event.Event.TheVariants as events
use Rattle.rg_stmt.specs.declared.event.Event.TheVariants.{Clean, Flush as EventFlush, FlushDevice}
use Rattle.rg_stmt.specs.declared.event.Event.TheVariants.{FlushDown, FlushNoMemory, Layout}
use Rattle.rg_stmt.specs.declared.event.Event.TheVariants.{LayoutDown, LayoutNoMemory}
use Rattle.rg_stmt.specs.declared.event.Event.TheVariants.{Said as EventSaid, Stop}
use Rattle.rg_stmt.specs.declared.line.Line.{Line}
use Rattle.rg_stmt.specs.declared.line.Line.TheVariants.{Flush, Reorg, Said, Show, Step}
use Rattle.rg_stmt.specs.declared.stmt.Reply.{Reply}
use Rattle.rg_stmt.specs.declared.stmt.Reply.TheVariants.{Done, Found, Listed, Keyed, Absent}
use Rattle.rg_stmt.specs.declared.stmt.Reply.TheVariants.{Duplicate, Held, Victim, Drained, Full}
use Rattle.rg_stmt.specs.declared.stmt.Reply.TheVariants.{LogFull, Device, Down, NoMemory}
use Rattle.rg_stmt.specs.declared.stmt.Stmt.{Stmt}
use Rattle.rg_stmt.specs.declared.stmt.Stmt.TheVariants.{Commit}
use Rattle.rg_stmt.specs.Entries.{said_entry}
use Rattle.rg_base.specs.Copies.{IsCopy, other_of, set_of}
use Rattle.rg_image.specs.Rules.{copy_capacity, limit_of}
use Rattle.rg_engine.specs.Answers.{IfLogFull, forces, is_device}
use Rattle.rg_engine.specs.Steps.{is_commit, leaves_ground}
use Rattle.rg_engine.specs.declared.units.OpenUnit.{OpenUnit}
use Rattle.rg_laws_utility.specs.ByteAccount.Account.{allowed_of}
use Rattle.rg_model.specs.State.{Table}
use Rattle.rg_laws_utility.specs.CopyWeight.Weighed.{weigh_feed}
use Rattle.rg_engine.specs.Stored.{IsStored}
use Rattle.rg_record.specs.declared.record.Record.{Record}
use Rattle.rg_desk.specs.Chronicle.{logged_after, logged_by, system_entry}
use Rattle.rg_desk.specs.Desk.{DeskState, IfStartLogFull, IsStart, MadeFlush}
use Rattle.rg_engine.specs.Layouts.{IsLayout, IsSideOf, ShowsSideOf}
use Rattle.rg_engine.specs.OnVolume.{AreClean, is_clean}
use Rattle.rg_desk.specs.Desk.{MadeLayout, MadeSaid, MadeStart, Stays, left_to_take, old_records}
use Rattle.rg_model.specs.Utility.{starts_utility}
use Rattle.rg_engine.specs.Flushed.{FlushIs, ReadsAll, WritesEither}
use Rattle.rg_engine.proofs.Flushing.{rose_earlier}
use Rattle.rg_engine.specs.Volume.{IsCount}
use Rattle.rg_outside.specs.Volume.{VolumeSeen}
use Rattle.rg_outside.specs.Capacities.{Capacities}
use Rattle.rg_outside.specs.Faults.{Rose}
use Rattle.rg_outside.specs.Moments.{EachCall, IfTold}
use Rattle.rg_outside.proofs.Every.{told_both, told_weaken}
use Rattle.rg_outside.proofs.Frame.{calls_join, calls_weaken, no_calls}
use Rattle.rg_run.specs.Asked.{HasAnswered, answer_before, answers_in}
use Rattle.rg_outside.specs.Calls.{Call, Told}
use Rattle.rg_outside.specs.Made.{CountsFailed}
use Rattle.rg_run.specs.Fit.{FailedThen, FitSince, FitsThen, ReadsPages, HasSide, IfClean, Known}
use Rattle.rg_run.specs.Fit.{calls_of_last, clean_after, copy_after, known_after, known_of}
use Rattle.rg_run.specs.Fit.{unopened, writes_of}
use Rattle.rg_run.specs.Full.{AreAllowed, IsAllowedAt, smaller_pages}
use Rattle.rg_run.specs.LogFull.{IsLogFullFrom, IsLogFullOnlyFrom}
use Rattle.rg_run.specs.Outside.{IsDeviceIf, IsDeviceOnlyIf, WritesOwn}
use Rattle.rg_run.specs.Played.{AllowsCopy, EntryOf, Goes, IsAlone, IsFlushed, IsOpened}
use Rattle.rg_run.specs.Played.{IsOpenedEntry, IsStartEvent, IsStepEvent, ShowsLoading, ShowsSecond}
use Rattle.rg_run.specs.Played.{StaysSince, TraceOf, first_of}
use Rattle.rg_laws_utility.specs.Course.Loading.{Loading, loading_after, loading_in}
use Rattle.rg_run.specs.Space.{AreForSpace, IsForSpace}
use Rattle.rg_run.proofs.Fullness.{allowed_flush, allowed_layout, allowed_on, allowed_opened}
use Rattle.rg_run.proofs.Fullness.{allowed_said, allowed_start, allowed_step, is_space_stop}
use Rattle.rg_run.proofs.Fullness.{smaller_least, space_allowed}
use Rattle.rg_run.proofs.Spaces.{fills_idle, flush_none, layout_none, shown_start, shown_step}
use Rattle.rg_run.proofs.Spaces.{shown_still, space_on, space_opened, space_said, space_start}
use Rattle.rg_run.proofs.Spaces.{space_step}
use Rattle.rg_run.proofs.Joins.{own_left, own_part, own_right}
use Rattle.rg_run.proofs.Asking.{answered_all, answered_once, same_unasked, unasked}
use Rattle.rg_run.proofs.Fits.{IfShown, IfSwitched, IfWritten, calls_push, failed_then}
use Rattle.rg_run.proofs.Fits.{fit_on, fit_push, flush_then, flushed_keeps, known_push}
use Rattle.rg_run.proofs.Fits.{layout_keeps, layout_tells, no_call, opened_alone, said_tells}
use Rattle.rg_run.proofs.Fits.{side_before, start_keeps, start_tells, step_copy, step_tells}
use Rattle.rg_run.proofs.Fits.{switched_then, told_all, writes_known, written_then}

entries_push : (lines : List Line) (entries : List Entry) (line : Line) (entry : Entry)
    → AllZip EntryOf lines entries → EntryOf line entry
    → AllZip EntryOf (lines ++ line ∷ []) (entries ++ entry ∷ [])
entries_push [] [] line entry all of = (of, tt)
entries_push [] (e ∷ entries) line entry all of = absurd all
entries_push (l ∷ lines) [] line entry all of = absurd all
entries_push (l ∷ lines) (e ∷ entries) line entry all of =
    (all.0, entries_push lines entries line entry all.1 of)

first_push : (lines : List Line) (trace : List Entry) (entry : Entry) → TraceOf lines trace
    → first_of (trace ++ entry ∷ []) ≡ first_of trace
first_push lines [] entry of = absurd of
first_push lines (e ∷ entries) entry of = refl

trace_push : (lines : List Line) (trace : List Entry) (line : Line) (entry : Entry)
    → TraceOf lines trace → EntryOf line entry → TraceOf (lines ++ line ∷ []) (trace ++ entry ∷ [])
trace_push lines [] line entry of one = absurd of
trace_push lines (e ∷ entries) line entry of one =
    (of.0, entries_push lines entries line entry of.1 one)

-- there is more than one entry after it
not_alone : (lines : List Line) (trace : List Entry) (entry : Entry) → TraceOf lines trace
    → IsAlone (trace ++ entry ∷ []) → ⊥
not_alone lines [] entry of alone = of
not_alone lines (e ∷ []) entry of alone = alone
not_alone lines (e ∷ f ∷ es) entry of alone = alone

second_push : (lines : List Line) (pages : List (List Slot)) (trace : List Entry) (entry : Entry)
    → TraceOf lines trace → ShowsSecond pages trace
    → (IsAlone trace → ShowsSideOf pages entry.event)
    → ShowsSecond pages (trace ++ entry ∷ [])
second_push lines pages [] entry of all one = absurd of
second_push lines pages (e ∷ []) entry of all one = one tt
second_push lines pages (e ∷ f ∷ es) entry of all one = all

-- the same pages with the same marks are clean
same_clean : (contents more : List Content) (marks later : List (Option Position))
    → more ≡ contents → later ≡ marks → AreClean contents marks → AreClean more later
same_clean contents more marks later pages same clean =
    subst (λ (ps : List Content). AreClean ps later) (sym pages)
    (subst (AreClean contents) (sym same) clean)

log_push : (limit logged : ℕ) (entries : List Entry) (entry : Entry)
    → IsLogFullOnlyFrom limit logged entries
    → IsLogFullFrom limit (logged_by logged entries) entry.event
    → IsLogFullOnlyFrom limit logged (entries ++ entry ∷ [])
log_push limit logged [] entry all one = (one, tt)
log_push limit logged (e ∷ entries) entry all one =
    (all.0, log_push limit (logged_after logged e.event) entries entry all.1 one)

log_said : (session : Session) (stmt : Stmt) (reply : Reply) (logged pages : ℕ)
    → IfLogFull reply logged pages
    → IsLogFullFrom (limit_of pages) logged (said_entry session stmt reply 0).event
log_said session stmt Done logged pages is = tt
log_said session stmt (Found row) logged pages is = tt
log_said session stmt (Listed rows) logged pages is = tt
log_said session stmt (Keyed keys) logged pages is = tt
log_said session stmt Absent logged pages is = tt
log_said session stmt Duplicate logged pages is = tt
log_said session stmt (Held owner) logged pages is = tt
log_said session stmt (Victim owner) logged pages is = tt
log_said session stmt Drained logged pages is = tt
log_said session stmt (Full need) logged pages is = tt
log_said session stmt (LogFull need left) logged pages is = is
log_said session stmt Device logged pages is = tt
log_said session stmt Down logged pages is = tt
log_said session stmt NoMemory logged pages is = tt

log_layout : (copy : ℕ) (event : Event) (limit logged : ℕ) → IsLayout copy event
    → IsLogFullFrom limit logged event
log_layout copy (Layout shown side) limit logged is = tt
log_layout copy LayoutNoMemory limit logged is = tt
log_layout copy LayoutDown limit logged is = tt
log_layout copy event limit logged is = absurd is

layout_clean : (copy : ℕ) (event : Event) (clean : Bool) → IsLayout copy event
    → clean_after clean event ≡ clean
layout_clean copy (Layout shown side) clean is = refl
layout_clean copy LayoutNoMemory clean is = refl
layout_clean copy LayoutDown clean is = refl
layout_clean copy event clean is = absurd is

device_layout : (P : Type 0) (copy : ℕ) (event : Event) → IsLayout copy event → IsDeviceIf P event
device_layout P copy (Layout shown side) is = tt
device_layout P copy LayoutNoMemory is = tt
device_layout P copy LayoutDown is = tt
device_layout P copy event is = absurd is

log_flush : (event : Event) (limit logged : ℕ) → IsFlushed event → IsLogFullFrom limit logged event
log_flush (EventFlush page) limit logged is = tt
log_flush Clean limit logged is = tt
log_flush FlushDevice limit logged is = tt
log_flush FlushDown limit logged is = tt
log_flush FlushNoMemory limit logged is = tt
log_flush event limit logged is = absurd is

-- what a flush answers that is up, or down
flushed_so : (down : Bool) (copy : ℕ) (contents : List Content)
    (marks later : List (Option Position)) (old new : VolumeSeen) (event : Event)
    → FlushIs down copy contents marks later old new event → IsFlushed event
flushed_so true copy contents marks later old new event is = subst IsFlushed (sym is.0) tt
flushed_so false copy contents marks later old new (EventFlush page) is = tt
flushed_so false copy contents marks later old new Clean is = tt
flushed_so false copy contents marks later old new FlushDevice is = tt
flushed_so false copy contents marks later old new FlushNoMemory is = tt
flushed_so false copy contents marks later old new event is = absurd is

-- pages that were clean are so after it, and so they are where it says CLEAN
flushed_clean : (down : Bool) (copy : ℕ) (contents : List Content)
    (marks later : List (Option Position)) (old new : VolumeSeen) (event : Event) (clean : Bool)
    → FlushIs down copy contents marks later old new event → down ≡ false
    → (clean ≡ true → AreClean contents marks) → clean_after clean event ≡ true
    → AreClean contents later
flushed_clean true copy contents marks later old new event clean is up was now = absurd (cc (up))
flushed_clean false copy contents marks later old new (EventFlush page) clean is up was now =
    absurd (cc (sym is.0.dirty ∙ was now page is.0.low is.0.high))
flushed_clean false copy contents marks later old new Clean clean is up was now = λ p one high.
    ap (λ (m : Option Position). is_clean m (content_at contents p)) (is.3 p one)
    ∙ is.0 p one high
flushed_clean false copy contents marks later old new FlushDevice clean is up was now =
    let least = is.1.least in
    absurd (cc (sym least.dirty ∙ was now is.1.page least.low least.high))
flushed_clean false copy contents marks later old new FlushNoMemory clean is up was now =
    λ p one high.
    ap (λ (m : Option Position). is_clean m (content_at contents p)) (is.1 p one)
    ∙ was now p one high
flushed_clean false copy contents marks later old new event clean is up was now = absurd is

flushed_shows : (pages : List (List Slot)) (event : Event) → IsFlushed event
    → ShowsSideOf pages event
flushed_shows pages (Layout copy side) is = absurd is
flushed_shows pages event is = tt

device_flush : (P : Type 0) (down : Bool) (copy : ℕ) (contents : List Content)
    (marks later : List (Option Position)) (old new : VolumeSeen) (event : Event)
    → (Rose old.faults new.faults → P) → FlushIs down copy contents marks later old new event
    → IsDeviceIf P event
device_flush P true copy contents marks later old new event f is =
    subst (IsDeviceIf P) (sym is.0) tt
device_flush P false copy contents marks later old new (EventFlush page) f is = tt
device_flush P false copy contents marks later old new Clean f is = tt
device_flush P false copy contents marks later old new FlushDevice f is = f is.0
device_flush P false copy contents marks later old new FlushNoMemory f is = tt
device_flush P false copy contents marks later old new event f is = absurd is

-- only a COMMIT is forced
unforced : (units : List (Option OpenUnit)) (session : Session) (stmt : Stmt)
    → is_commit stmt ≡ false → forces units session stmt ≡ false
unforced units session Commit other = absurd (cc (other))
unforced units session stmt other = refl

-- ---- the utility

start_so : (down : Bool) (stage : Option Stage) (options : Options) (copy pages : ℕ)
    (log : ListedLog) (event : Event) (next : Option Stage)
    → IsStart down stage options copy pages log event next → IsStartEvent options event
start_so true stage options copy pages log event next is =
    subst (IsStartEvent options) (sym is.0) tt
start_so false (Some s) options copy pages log event next is =
    subst (IsStartEvent options) (sym is.0) tt
start_so false None options copy pages log (events.Started given of_copy of_pages) next is = is.0
start_so false None options copy pages log (events.StartLogFull need left) next is = tt
start_so false None options copy pages log events.StartNoMemory next is = tt
start_so false None options copy pages log event next is = absurd is

log_start : (options : Options) (event : Event) (logged pages : ℕ) → IsStartEvent options event
    → IfStartLogFull event logged pages → IsLogFullFrom (limit_of pages) logged event
log_start options (EventSaid stmt reply) logged pages is full = absurd is
log_start options (events.StartLogFull need left) logged pages is full = full
log_start options event logged pages is full = tt

start_clean : (options : Options) (event : Event) (clean : Bool) → IsStartEvent options event
    → clean_after clean event ≡ clean
start_clean options (events.Opened copy rows pages used) clean is = absurd is
start_clean options Clean clean is = absurd is
start_clean options (events.Switched to sides) clean is = absurd is
start_clean options (EventSaid stmt reply) clean is = absurd is
start_clean options event clean is = refl

start_shows : (options : Options) (pages : List (List Slot)) (event : Event)
    → IsStartEvent options event → ShowsSideOf pages event
start_shows options pages (Layout copy side) is = absurd is
start_shows options pages event is = tt

device_start : (P : Type 0) (options : Options) (event : Event) → IsStartEvent options event
    → IsDeviceIf P event
device_start P options (EventSaid stmt reply) is = absurd is
device_start P options FlushDevice is = absurd is
device_start P options (Stop reason) is = absurd is
device_start P options event is = tt

step_so : (down : Bool) (stage : Option Stage) (changes : ℕ) (covered : Option Session)
    (answer : Option Answer) (event : Event)
    → NextMade down stage changes covered answer event → IsStepEvent answer event
step_so true stage changes covered None events.StepDown is = tt
step_so true stage changes covered None event is = absurd is
step_so true stage changes covered (Some answer) event is = absurd is
step_so false None changes covered None events.Idle is = tt
step_so false None changes covered None event is = absurd is
step_so false None changes covered (Some answer) event is = absurd is
step_so false (Some s) changes covered None event is = absurd is
step_so false (Some s) changes covered (Some answer) event is = is.0

log_step : (answer : Option Answer) (event : Event) (limit logged : ℕ) → IsStepEvent answer event
    → IsLogFullFrom limit logged event
log_step None (EventSaid stmt reply) limit logged is = absurd is
log_step (Some answer) (EventSaid stmt reply) limit logged is = absurd (cc (is))
log_step None (events.StartLogFull need left) limit logged is = absurd is
log_step (Some answer) (events.StartLogFull need left) limit logged is = absurd (cc (is))
log_step answer event limit logged is = tt

step_shows : (answer : Option Answer) (pages : List (List Slot)) (event : Event)
    → IsStepEvent answer event → ShowsSideOf pages event
step_shows None pages (Layout copy side) is = absurd is
step_shows (Some answer) pages (Layout copy side) is = absurd (cc (is))
step_shows answer pages event is = tt

-- so are those of a switch, and any others that were clean
step_clean : {V O : Type 0} (old new : DeskState V O) (answer : Option Answer) (event : Event)
    (clean : Bool) → IsStepEvent answer event → KeepsPages old new event
    → (clean ≡ true → AreClean old.contents old.marks) → clean_after clean event ≡ true
    → AreClean new.contents new.marks
step_clean old new None (events.Opened copy rows pages used) clean is keeps was now = absurd is
step_clean old new (Some answer) (events.Opened copy rows pages used) clean is keeps was now =
    absurd (cc (is))
step_clean old new None Clean clean is keeps was now = absurd is
step_clean old new (Some answer) Clean clean is keeps was now = absurd (cc (is))
step_clean old new None (EventSaid stmt reply) clean is keeps was now = absurd is
step_clean old new (Some answer) (EventSaid stmt reply) clean is keeps was now = absurd (cc (is))
step_clean old new answer (events.Switched to sides) clean is keeps was now = keeps
step_clean old new answer event clean is keeps was now =
    same_clean old.contents new.contents old.marks new.marks keeps.0 keeps.1 (was now)

device_step : (P : Type 0) (answer : Option Answer) (event : Event)
    → (is_device_stop event ≡ true → P) → IsStepEvent answer event → IsDeviceIf P event
device_step P None (EventSaid stmt reply) f is = absurd is
device_step P (Some answer) (EventSaid stmt reply) f is = absurd (cc (is))
device_step P None FlushDevice f is = absurd is
device_step P (Some answer) FlushDevice f is = absurd (cc (is))
device_step P None (Stop reason) f is = absurd is
device_step P (Some answer) (Stop reasons.Device) f is = f refl
device_step P (Some answer) (Stop reason) f is = tt
device_step P answer event f is = tt

device_said : (P : Type 0) (session : Session) (stmt : Stmt) (reply : Reply) → (reply ≡ Device → P)
    → IsDeviceIf P (said_entry session stmt reply 0).event
device_said P session stmt Device is = is refl
device_said P session stmt reply is = tt

-- a statement after which pages are clean has left them as they were
said_clean : (stmt : Stmt) (reply : Reply) (clean : Bool)
    → clean_after clean (EventSaid stmt reply) ≡ true
    → (leaves_ground reply ≡ true) × (clean ≡ true) × (is_device reply ≡ false)
said_clean stmt Done clean now = absurd (cc (now))
said_clean stmt Device clean now = absurd (cc (now))
said_clean stmt reply clean now = (refl, now, refl)

-- what holds where DEVICE is answered holds by another reason
one_more : (P Q : Type 0) (event : Event) → (P → Q) → IsDeviceIf P event → IsDeviceIf Q event
one_more P Q (EventSaid stmt Device) f is = f is
one_more P Q (EventSaid stmt reply) f is = tt
one_more P Q FlushDevice f is = f is
one_more P Q (Stop reasons.Device) f is = f is
one_more P Q (Stop reason) f is = tt
one_more P Q event f is = tt

pub device_more : (P Q : Type 0) (entries : List Entry) → (P → Q) → IsDeviceOnlyIf P entries
    → IsDeviceOnlyIf Q entries
device_more P Q [] f all = tt
device_more P Q (entry ∷ entries) f all =
    (one_more P Q entry.event f all.0, device_more P Q entries f all.1)

device_push : (P : Type 0) (entries : List Entry) (entry : Entry) → IsDeviceOnlyIf P entries
    → IsDeviceIf P entry.event → IsDeviceOnlyIf P (entries ++ entry ∷ [])
device_push P [] entry all one = (one, tt)
device_push P (e ∷ entries) entry all one = (all.0, device_push P entries entry all.1 one)

device_is : (reply : Reply) → is_device reply ≡ true → reply ≡ Device
device_is Device e = refl
device_is reply e = absurd (cc (e))

-- ---- faults and calls

-- from fewer faults before, to more now
pub rose_wider : (a b c d : ℕ) → c ≤ a → b ≤ d → Rose a b → Rose c d
rose_wider a b c d low high rose = λ few. let lt = rose (omega (arith, few, high)) in
    omega (arith, lt, low, high)

pub rose_later : (a b c : ℕ) → b ≤ c → Rose a b → Rose a c
rose_later a b c le rose = λ low. let lt = rose (omega (arith, low, le)) in omega (arith, lt, le)

-- the other copy is a copy
other_is : (copy : ℕ) → IsCopy (other_of copy)
other_is copy = go (copy == 1)
  where
    go : (b : Bool) → IsCopy (if b then 2 else 1)
    go true = inr refl
    go false = inl refl

-- only such calls were made as the entries before allow
record CallsWithin {V O : Type 0} (look : V → VolumeSeen) (old new : DeskState V O) : Type 0 where
  pub only : EachCall (look old.volume).told (look new.volume).told (WritesOwn old.trace)
  pub later : (look old.volume).faults ≤ (look new.volume).faults
  pub capacities : (look new.volume).capacities ≡ (look old.volume).capacities

-- what an entry's calls and its desk leave as it was
record Moves {V O : Type 0} (look : V → VolumeSeen) (old new : DeskState V O) (entry : Entry) :
    Type 0 where
  pub older : new.older ≡ old.older
  pub log_pages : new.ground.log.pages ≡ old.ground.log.pages
  pub opened : new.opened ≡ old.opened
  pub first_copy : new.first_copy ≡ old.first_copy
  pub old_same : old_records new ≡ old_records old
  pub only : EachCall (look old.volume).told (look new.volume).told (WritesOwn old.trace)
  pub later : (look old.volume).faults ≤ (look new.volume).faults
  pub capacities : (look new.volume).capacities ≡ (look old.volume).capacities
  pub room : smaller_pages (look old.volume).capacities ≤ new.ground.capacity
  pub copy : new.copy ≡ copy_after old.copy entry.event
  pub own : AllowsCopy (old.trace ++ entry ∷ []) new.copy
  pub both : is_some new.stage ≡ true → (copy : ℕ) → IsCopy copy
      → AllowsCopy (old.trace ++ entry ∷ []) copy
  pub space : IsForSpace (look old.volume).capacities (loading_in None old.trace) entry.event
  pub loading : ShowsLoading new.stage new.copy (old.trace ++ entry ∷ [])

module _ {V O : Type 0} {answers : O → Option (List Answer)} (look : V → VolumeSeen)
    (law : (v : V) → IfTold (look v).told (CountsFailed (look v).faults))
    (first old new : DeskState V O) (lines : List Line)
    (goes : Goes look answers first lines old) where
  stays_on : (entry : Entry) → new.trace ≡ old.trace ++ entry ∷ [] → Moves look old new entry
      → StaysSince look first new
  stays_on entry made moves = record {
    older = moves.older ∙ goes.stays.older;
    log_pages = moves.log_pages ∙ goes.stays.log_pages;
    opened = moves.opened ∙ goes.stays.opened;
    first_copy = moves.first_copy ∙ goes.stays.first_copy;
    old_same = moves.old_same ∙ goes.stays.old_same;
    only =
        subst
        (λ (es : List Entry). EachCall (look first.volume).told (look new.volume).told
        (WritesOwn es)) (sym made)
        (calls_weaken (WritesOwn old.trace) (WritesOwn (old.trace ++ entry ∷ []))
        (look first.volume).told (look new.volume).told (own_left old.trace (entry ∷ []))
        (calls_join (WritesOwn old.trace) (look first.volume).told (look old.volume).told
        (look new.volume).told goes.stays.only moves.only));
    later = omega (arith, goes.stays.later, moves.later);
    capacities = moves.capacities ∙ goes.stays.capacities;
  }

  -- faults that rose before have risen, and so have those that rose now
  risen : (look old.volume).faults ≤ (look new.volume).faults
      → Rose (look first.volume).faults (look old.volume).faults
      → Rose (look first.volume).faults (look new.volume).faults
  risen later rose = rose_later (look first.volume).faults (look old.volume).faults
      (look new.volume).faults later rose

  rises : Rose (look old.volume).faults (look new.volume).faults
      → Rose (look first.volume).faults (look new.volume).faults
  rises rose = rose_earlier (look first.volume).faults (look old.volume).faults
      (look new.volume).faults goes.stays.later rose

  -- a call that was made since the entry before has failed
  failed_now : (Kind : Call → Type 0) (calls : ℕ)
      → EachCall (look old.volume).told (look new.volume).told Kind
      → IsCount (look new.volume) calls → Rose (look old.volume).faults (look new.volume).faults
      → IfTold (look new.volume).told (λ t. FailedThen t.start (calls_of_last 0 old.trace) calls t)
  failed_now Kind calls made counted rose =
      failed_then Kind (look old.volume) (look new.volume) (calls_of_last 0 old.trace) calls made
      goes.counted counted (law old.volume) (law new.volume) rose

  -- no call was made since the entry before
  still_now : (calls : ℕ) → IsCount (look new.volume) calls → look new.volume ≡ look old.volume
      → IfTold (look new.volume).told (λ t. calls ≡ calls_of_last 0 old.trace)
  still_now calls counted same =
      no_call (look old.volume) (look new.volume) (calls_of_last 0 old.trace) calls goes.counted
      counted same

  abbrev least : ℕ
  least = 3221 * smaller_pages (look old.volume).capacities

  -- what the entries so far tell
  abbrev known : Known
  known = known_of unopened old.trace

  -- a layout of clean pages is that of the pages as they read
  abbrev CleanSide : (calls : ℕ) → Told → Side → Type 0
  CleanSide calls t side = IfClean known.clean (HasSide known.copy t.start calls side t)

  known_on : (entry : Entry) → new.trace ≡ old.trace ++ entry ∷ []
      → known_of unopened new.trace ≡ known_after known entry
  known_on entry made = ap (known_of unopened) made ∙ known_push unopened old.trace entry

  on : (line : Line) (entry : Entry) → new.trace ≡ old.trace ++ entry ∷ [] → EntryOf line entry
      → ((start : Table) → IsStored (old_records old) start
      → IsAllowedAt least (allowed_of start old.trace) entry.event (loading_in None old.trace))
      → IsLogFullFrom (limit_of old.ground.log.pages) (logged_by 0 old.trace) entry.event
      → IsDeviceIf (Rose (look first.volume).faults (look new.volume).faults) entry.event
      → (new.down ≡ true → Rose (look first.volume).faults (look new.volume).faults)
      → IfTold (look new.volume).told
      (λ t. FitsThen known (writes_of known entry.actor) t.start (calls_of_last 0 old.trace)
      entry.calls t entry.event)
      → (clean_after known.clean entry.event ≡ true → new.down ≡ false
      → AreClean new.contents new.marks)
      → ShowsSideOf (slots_of old.contents) entry.event
      → IsCount (look new.volume) entry.calls
      → HasAnswered (answers old.operator) (answer_before entry.answer []) (answers new.operator)
      → Moves look old new entry → Goes look answers first (lines ++ line ∷ []) new
  on line entry made of full log device down flush clean shows counted asked moves = record {
    entries = subst (TraceOf (lines ++ line ∷ [])) (sym made)
        (trace_push lines old.trace line entry goes.entries of);
    begins = ap first_of made ∙ first_push lines old.trace entry goes.entries ∙ goes.begins;
    full = λ start stored.
        let was = subst (λ (rs : List Record). IsStored rs start) moves.old_same stored in
        subst (λ (c : Capacities). AreAllowed (3221 * smaller_pages c) start new.trace)
        (sym moves.capacities)
        (subst (AreAllowed least start) (sym made)
        (allowed_on least start old.trace entry (goes.full start was) (full start was)));
    log_full =
        subst (λ (n : ℕ). IsLogFullOnlyFrom (limit_of n) 0 new.trace) (sym moves.log_pages)
        (subst (IsLogFullOnlyFrom (limit_of old.ground.log.pages) 0) (sym made)
        (log_push (limit_of old.ground.log.pages) 0 old.trace entry goes.log_full log));
    space =
        subst (AreForSpace (look new.volume).capacities None) (sym made)
        (space_on (look old.volume).capacities (look new.volume).capacities old.trace entry
        moves.capacities goes.space moves.space);
    loading = subst (ShowsLoading new.stage new.copy) (sym made) moves.loading;
    device =
        subst (IsDeviceOnlyIf (Rose (look first.volume).faults (look new.volume).faults)) (sym made)
        (device_push (Rose (look first.volume).faults (look new.volume).faults) old.trace entry
        (device_more (Rose (look first.volume).faults (look old.volume).faults)
        (Rose (look first.volume).faults (look new.volume).faults) old.trace (risen moves.later)
        goes.device) device);
    down = down;
    fit =
        subst (λ (es : List Entry). IfTold (look new.volume).told (λ t. FitSince t.start t es))
        (sym made) (told_weaken
        (λ t. FitSince t.start t old.trace
        × FitsThen known (writes_of known entry.actor) t.start (calls_of_last 0 old.trace)
        entry.calls t entry.event)
        (λ t. FitSince t.start t (old.trace ++ entry ∷ [])) (look new.volume).told
        (λ t both. fit_push unopened t.start 0 t old.trace entry both.0 both.1)
        (told_both (λ t. FitSince t.start t old.trace)
        (λ t. FitsThen known (writes_of known entry.actor) t.start (calls_of_last 0 old.trace)
        entry.calls t entry.event)
        (look new.volume).told
        (fit_on (WritesOwn old.trace) (look old.volume).told (look new.volume).told unopened 0
        old.trace moves.only goes.fit) flush));
    copy_is = ap (λ (k : Known). k.copy) (known_on entry made)
        ∙ ap (λ (n : ℕ). copy_after n entry.event) goes.copy_is ∙ sym moves.copy;
    clean = λ now. clean (ap (λ (k : Known). k.clean) (sym (known_on entry made)) ∙ now);
    first_pages = λ alone.
        absurd (not_alone lines old.trace entry goes.entries (subst IsAlone made alone));
    shown =
        subst (ShowsSecond (slots_of first.contents)) (sym made)
        (second_push lines (slots_of first.contents) old.trace entry goes.entries goes.shown
        (λ alone. subst (λ (ps : List Content). ShowsSideOf (slots_of ps) entry.event)
        (goes.first_pages alone) shows));
    counted = subst (IsCount (look new.volume))
        (sym (ap (calls_of_last 0) made ∙ calls_push 0 old.trace entry)) counted;
    asked =
        subst
        (λ (es : List Entry). HasAnswered (answers first.operator) (answers_in es)
        (answers new.operator)) (sym made)
        (answered_all (answers first.operator) (answers old.operator) (answers new.operator)
        old.trace (entry ∷ []) (old.trace ++ entry ∷ []) refl goes.asked asked);
    room = subst (λ (c : Capacities). smaller_pages c ≤ new.ground.capacity) (sym moves.capacities)
        moves.room;
    own = subst (λ (es : List Entry). AllowsCopy es new.copy) (sym made) moves.own;
    both = λ runs copy is. subst (λ (es : List Entry). AllowsCopy es copy) (sym made)
        (moves.both runs copy is);
    stays = stays_on entry made moves;
  }

  -- what one more entry allows
  allows_more : (entry : Entry) (copy : ℕ) → AllowsCopy old.trace copy
      → AllowsCopy (old.trace ++ entry ∷ []) copy
  allows_more entry copy allows call writes =
      own_left old.trace (entry ∷ []) call (allows call writes)

  moves_of : (entry : Entry) → Stays look old new → ((k : ℕ) → copy_after k entry.event ≡ k)
      → (is_some new.stage ≡ true → (copy : ℕ) → IsCopy copy
      → AllowsCopy (old.trace ++ entry ∷ []) copy)
      → IsForSpace (look old.volume).capacities (loading_in None old.trace) entry.event
      → ShowsLoading new.stage new.copy (old.trace ++ entry ∷ []) → Moves look old new entry
  moves_of entry stays keeps both space loading = record {
    older = stays.older;
    log_pages = stays.log_pages;
    opened = stays.opened;
    first_copy = stays.first_copy;
    old_same = stays.old_same;
    only = calls_weaken (WritesEither (set_of old.copy)) (WritesOwn old.trace)
        (look old.volume).told (look new.volume).told goes.own stays.calls.only;
    later = stays.calls.later;
    capacities = stays.calls.capacities;
    room = let room = goes.room in let capacity = stays.capacity in omega (arith, room, capacity);
    copy = stays.copy ∙ sym (keeps old.copy);
    own = allows_more entry new.copy (subst (AllowsCopy old.trace) (sym stays.copy) goes.own);
    both = both;
    space = space;
    loading = loading;
  }

  -- where the entry tells nothing of the new copy, and the stage and the copy are as they were
  loading_still : (entry : Entry) → new.stage ≡ old.stage → new.copy ≡ old.copy
      → ((now : Option Loading) → loading_after now entry.event ≡ now)
      → ShowsLoading new.stage new.copy (old.trace ++ entry ∷ [])
  loading_still entry stage copy tells = shown_still old.stage new.stage old.copy new.copy old.trace
      entry stage copy (tells (loading_in None old.trace)) goes.loading

  -- where the utility's stage is as it was
  both_still : (entry : Entry) → new.stage ≡ old.stage → is_some new.stage ≡ true → (copy : ℕ)
      → IsCopy copy → AllowsCopy (old.trace ++ entry ∷ []) copy
  both_still entry same runs copy is = allows_more entry copy
      (goes.both (ap (λ (o : Option Stage). is_some o) (sym same) ∙ runs) copy is)

  least_room : least ≤ 3221 * old.ground.capacity
  least_room = let room = goes.room in omega (arith, room)

  pub goes_said : (session : Session) (stmt : Stmt) → MadeSaid look old session stmt new
      → Goes look answers first (lines ++ Said session stmt ∷ []) new
  goes_said session stmt said =
      let entry = said_entry session stmt said.reply said.calls in
      on (Said session stmt) entry said.made (said.reply, refl, said.is)
      (λ start stored. allowed_said stmt said.reply least (allowed_of start old.trace)
      old.ground.capacity (loading_in None old.trace) least_room (said.full start stored))
      (log_said session stmt said.reply (logged_by 0 old.trace) old.ground.log.pages said.log_full)
      (device_said (Rose (look first.volume).faults (look new.volume).faults) session stmt
      said.reply (λ is. rises (said.device is)))
      (λ down. by_old old.down refl (sym said.down ∙ down))
      (said_tells stmt said.reply (look new.volume).told known (known.writes session.0)
      (calls_of_last 0 old.trace) said.calls
      (λ is. failed_now (WritesEither (set_of old.copy)) said.calls said.stays.calls.only
      said.counted (said.device is))
      (λ other. still_now said.calls said.counted
      (said.quiet (unforced old.ground.units session stmt other)))
      (λ none. still_now said.calls said.counted
      (said.idle (sym (writes_known unopened [] old.trace session.0 refl) ∙ none))))
      (λ now up.
      let still = said_clean stmt said.reply known.clean now in
      same_clean old.contents new.contents old.marks new.marks (said.kept still.0).1 said.marks
      (goes.clean still.1 (was_up old.down (is_device said.reply) (sym said.down ∙ up))))
      tt said.counted (same_unasked answers old.operator new.operator said.utility.operator)
      (moves_of entry said.stays (λ k. refl) (both_still entry said.utility.stage)
      (space_said (look old.volume).capacities stmt said.reply (loading_in None old.trace))
      (loading_still entry said.utility.stage said.stays.copy (λ now. refl)))
    where
      was_up : (b device : Bool) → (b || device) ≡ false → b ≡ false
      was_up true device up = up
      was_up false device up = refl

      by_old : (b : Bool) → old.down ≡ b → (b || is_device said.reply) ≡ true
          → Rose (look first.volume).faults (look new.volume).faults
      by_old true e down = risen said.stays.calls.later (goes.down e)
      by_old false e down = rises (said.device (device_is said.reply down))

  pub goes_shown : MadeLayout look old new → Goes look answers first (lines ++ Show ∷ []) new
  goes_shown shown =
      let entry = system_entry shown.event shown.calls in
      on Show entry shown.made (old.copy, shown.event, refl, shown.is)
      (λ start stored. allowed_layout old.copy shown.event least (allowed_of start old.trace)
      (loading_in None old.trace) shown.is)
      (log_layout old.copy shown.event (limit_of old.ground.log.pages) (logged_by 0 old.trace)
      shown.is)
      (device_layout (Rose (look first.volume).faults (look new.volume).faults) old.copy shown.event
      shown.is) (λ down. risen shown.stays.calls.later (goes.down (sym shown.down ∙ down)))
      (told_weaken
      (λ t. (shown.calls ≡ calls_of_last 0 old.trace)
      × IfShown (CleanSide shown.calls t) shown.event)
      (λ t. FitsThen known 0 t.start (calls_of_last 0 old.trace) shown.calls t shown.event)
      (look new.volume).told
      (λ t both. layout_tells old.copy shown.event shown.is known 0 t.start
      (calls_of_last 0 old.trace) shown.calls t both.0 both.1)
      (told_both (λ t. shown.calls ≡ calls_of_last 0 old.trace)
      (λ t. IfShown (CleanSide shown.calls t) shown.event) (look new.volume).told
      (still_now shown.calls shown.counted (ap look shown.volume))
      (reads_so shown.event refl side)))
      (λ now up. same_clean old.contents new.contents old.marks new.marks shown.contents shown.marks
      (goes.clean (sym (layout_clean old.copy shown.event known.clean shown.is) ∙ now)
      (sym shown.down ∙ up))) side
      shown.counted (same_unasked answers old.operator new.operator shown.utility.operator)
      (moves_of entry shown.stays (layout_keeps old.copy shown.event shown.is)
      (both_still entry shown.utility.stage)
      ((layout_none old.copy shown.event shown.is).space (look old.volume).capacities
      (loading_in None old.trace))
      (loading_still entry shown.utility.stage shown.stays.copy
      (layout_none old.copy shown.event shown.is).same))
    where
      side : ShowsSideOf (slots_of old.contents) shown.event
      side = subst (λ (ps : List (List Slot)). ShowsSideOf ps shown.event) shown.slots shown.side

      by_clean : (b : Bool) (of : Side) → known.clean ≡ b → old.down ≡ false
          → IsSideOf (slots_of old.contents) of
          → IfTold (look new.volume).told
          (λ t. IfClean b (HasSide known.copy t.start shown.calls of t))
      by_clean false of is up are = told_all (look new.volume).told (λ t. Unit {0}) (λ t. tt)
      by_clean true of is up are =
          subst
          (λ (n : ℕ). IfTold (look new.volume).told (λ t. HasSide n t.start shown.calls of t))
          (sym goes.copy_is)
          (switched_then old.copy shown.calls of old.contents (look new.volume) shown.counted
          (subst (λ (v : V). IfTold (look v).told (ReadsAll (set_of old.copy) old.contents))
          (sym shown.volume) (shown.reads up (goes.clean is up))) are)

      by_down : (down : Bool) (of_copy : ℕ) (of : Side) → old.down ≡ down
          → shown.event ≡ Layout of_copy of → IsSideOf (slots_of old.contents) of
          → IfTold (look new.volume).told (λ t. CleanSide shown.calls t of)
      by_down true of_copy of down is are = absurd (cc (sym is ∙ shown.was_down down))
      by_down false of_copy of down is are = by_clean known.clean of refl down are

      reads_so : (event : Event) → shown.event ≡ event → ShowsSideOf (slots_of old.contents) event
          → IfTold (look new.volume).told (λ t. IfShown (CleanSide shown.calls t) event)
      reads_so (Layout of_copy of) is are = by_down old.down of_copy of refl is are
      reads_so event is are = told_all (look new.volume).told (λ t. Unit {0}) (λ t. tt)

  pub goes_flushed : MadeFlush look old new → Goes look answers first (lines ++ Flush ∷ []) new
  goes_flushed made =
      let is = flushed_so old.down old.copy old.contents old.marks new.marks (look old.volume)
      (look new.volume) made.event made.is in
      let entry = system_entry made.event made.calls in
      on Flush entry made.made (made.event, refl, is)
      (λ start stored. allowed_flush made.event least (allowed_of start old.trace)
      (loading_in None old.trace) is)
      (log_flush made.event (limit_of old.ground.log.pages) (logged_by 0 old.trace) is)
      (device_flush (Rose (look first.volume).faults (look new.volume).faults) old.down old.copy
      old.contents old.marks new.marks (look old.volume) (look new.volume) made.event rises made.is)
      (λ down. risen made.stays.calls.later (goes.down (sym made.down ∙ down)))
      (flush_then (WritesEither (set_of old.copy)) old.down known 0 old.contents old.marks
      new.marks (look old.volume) (look new.volume) (calls_of_last 0 old.trace) made.calls
      made.event made.stays.calls.only goes.counted made.counted
      (λ rose. failed_now (WritesEither (set_of old.copy)) made.calls made.stays.calls.only
      made.counted rose)
      (subst
      (λ (n : ℕ). FlushIs old.down n old.contents old.marks new.marks (look old.volume)
      (look new.volume) made.event) (sym goes.copy_is) made.is))
      (λ now up.
      let was = sym made.down ∙ up in
      subst (λ (ps : List Content). AreClean ps new.marks) (sym made.contents)
      (flushed_clean old.down old.copy old.contents old.marks new.marks (look old.volume)
      (look new.volume) made.event known.clean made.is was (λ is. goes.clean is was) now))
      (flushed_shows (slots_of old.contents) made.event is)
      made.counted (same_unasked answers old.operator new.operator made.utility.operator)
      (moves_of entry made.stays (flushed_keeps made.event is) (both_still entry made.utility.stage)
      ((flush_none made.event is).space (look old.volume).capacities (loading_in None old.trace))
      (loading_still entry made.utility.stage made.stays.copy (flush_none made.event is).same))

  -- where a utility runs, it ran before, or it started
  started_runs : (down : Bool) (stage next : Option Stage) (options : Options) (copy pages : ℕ)
      (log : ListedLog) (event : Event) → IsStart down stage options copy pages log event next
      → is_some next ≡ true → (is_some stage ≡ true) ⊎ (starts_utility event ≡ true)
  started_runs true stage next options copy pages log event is runs =
      inl (ap (λ (o : Option Stage). is_some o) (sym is.1) ∙ runs)
  started_runs false (Some s) next options copy pages log event is runs = inl refl
  started_runs false None next options copy pages log (events.Started given of_copy of_pages) is
      runs = inr refl
  started_runs false None next options copy pages log (events.StartLogFull need left) is runs =
      absurd (cc (ap (λ (o : Option Stage). is_some o) is.3, runs))
  started_runs false None next options copy pages log events.StartNoMemory is runs =
      absurd (cc (ap (λ (o : Option Stage). is_some o) is, runs))
  started_runs false None next options copy pages log event is runs = absurd is

  -- the start of a utility allows both copies
  start_allows : (event : Event) (calls : ℕ) → starts_utility event ≡ true → (copy : ℕ)
      → IsCopy copy → AllowsCopy (old.trace ++ utility_entry event None calls ∷ []) copy
  start_allows (events.Started options of_copy pages) calls is copy (inl one) call writes =
      own_right old.trace (utility_entry (events.Started options of_copy pages) None calls ∷ [])
      call (inl (inl (subst (λ (n : ℕ). WritesEither (set_of n) call) one writes)))
  start_allows (events.Started options of_copy pages) calls is copy (inr two) call writes =
      own_right old.trace (utility_entry (events.Started options of_copy pages) None calls ∷ [])
      call (inl (inr (subst (λ (n : ℕ). WritesEither (set_of n) call) two writes)))
  start_allows event calls is copy which call writes = absurd (cc (is))

  pub goes_started : (options : Options) (started : Bool) → MadeStart look old options started new
      → Goes look answers first (lines ++ Reorg options ∷ []) new
  goes_started options started made =
      let is = start_so old.down old.stage options old.copy (length old.contents) old.ground.log
      made.event new.stage made.is in
      let entry = utility_entry made.event None made.calls in
      on (Reorg options) entry made.made (made.event, refl, is)
      (λ start stored. allowed_start options made.event least (allowed_of start old.trace)
      (loading_in None old.trace) is)
      (log_start options made.event (logged_by 0 old.trace) old.ground.log.pages is made.log_full)
      (device_start (Rose (look first.volume).faults (look new.volume).faults) options made.event
      is)
      (λ down. risen made.stays.calls.later (goes.down (sym made.down ∙ down)))
      (told_weaken (λ t. made.calls ≡ calls_of_last 0 old.trace)
      (λ t. FitsThen known 0 t.start (calls_of_last 0 old.trace) made.calls t made.event)
      (look new.volume).told
      (λ t. start_tells options made.event is known 0 t.start (calls_of_last 0 old.trace)
      made.calls t)
      (still_now made.calls made.counted (ap look made.volume)))
      (λ now up. same_clean old.contents new.contents old.marks new.marks made.contents made.marks
      (goes.clean (sym (start_clean options made.event known.clean is) ∙ now) (sym made.down ∙ up)))
      (start_shows options (slots_of old.contents) made.event is)
      made.counted (same_unasked answers old.operator new.operator made.operator)
      (moves_of entry made.stays (start_keeps options made.event is)
      (λ runs copy which. by_start copy which
      (started_runs old.down old.stage new.stage options old.copy (length old.contents)
      old.ground.log made.event made.is runs))
      (space_start options made.event is (look old.volume).capacities (loading_in None old.trace))
      (shown_start old.down old.stage new.stage options old.copy new.copy (length old.contents)
      old.ground.log old.trace entry made.is made.stays.copy goes.loading))
    where
      by_start : (copy : ℕ) → IsCopy copy
          → (is_some old.stage ≡ true) ⊎ (starts_utility made.event ≡ true)
          → AllowsCopy (old.trace ++ utility_entry made.event None made.calls ∷ []) copy
      by_start copy which (inl ran) =
          allows_more (utility_entry made.event None made.calls) copy (goes.both ran copy which)
      by_start copy which (inr started) = start_allows made.event made.calls started copy which

  pub goes_stepped : (last : O → Option ℕ) (made_of : Made) (taken : ℕ)
      → Stepped look answers last old made_of taken new
      → Goes look answers first (lines ++ Step ∷ []) new
  goes_stepped last made_of taken stepped =
      let answer = stepped.answer in
      let event = stepped.event in
      let is = step_so old.down old.stage old.changes old.covered answer event stepped.next in
      on Step entry made.made (answer, event, refl, is)
      (λ start stored. allowed_step answer event least (allowed_of start old.trace)
      (loading_in None old.trace) is (stops start stored))
      (log_step answer event (limit_of old.ground.log.pages) (logged_by 0 old.trace) is)
      (device_step (Rose (look first.volume).faults (look new.volume).faults) answer event
      (λ at. rises (made.device at)) is)
      (λ down. by_down (made.down down))
      (step_tells answer event is (look new.volume).told known 0 (calls_of_last 0 old.trace)
      made.calls
      (λ at. failed_now (WritesOwn old.trace) made.calls calls.only made.counted (made.device at))
      (λ still. still_now made.calls made.counted (ap look (made.quiet still)))
      (turned_at event made.told made.copy) (wrote_at event made.told made.copy))
      (λ now up. step_clean asked new answer event known.clean is (made.pages up)
      (λ was. goes.clean was (was_up old.down refl up)) now)
      (step_shows answer (slots_of old.contents) event is)
      made.counted
      (subst (λ (o : O). HasAnswered (answers old.operator) (answer_before answer []) (answers o))
      (sym made.operator)
      (answered_once answers last (left_to_take old) old.operator stepped.asked.operator answer
      stepped.operator))
      moves
    where
      asked : DeskState V O
      asked = record old {
        spare = stepped.asked.spare;
        kept = stepped.answer;
        operator = stepped.asked.operator;
      }

      made : Makes look asked stepped.answer stepped.event new
      made = subst (λ (d : DeskState V O). Makes look d stepped.answer stepped.event new)
          stepped.same stepped.made

      entry : Entry
      entry = utility_entry stepped.event stepped.answer made.calls

      -- it calls nothing, or only as far as the start of the utility allows
      calls_of : (answer : Option Answer) → StepCalls look old answer new → CallsWithin look old new
      calls_of None same = record {
        only =
            subst (λ (v : V). EachCall (look old.volume).told (look v).told (WritesOwn old.trace))
            (sym same) (no_calls (WritesOwn old.trace) (look old.volume).told);
        later = omega (arith, ap (λ (v : V). (look v).faults) same);
        capacities = ap (λ (v : V). (look v).capacities) same;
      }
      calls_of (Some a) calls = record {
        only = calls_weaken (WritesEither (set_of (other_of old.copy))) (WritesOwn old.trace)
            (look old.volume).told (look new.volume).told
            (goes.both calls.0 (other_of old.copy) (other_is old.copy)) calls.1.only;
        later = calls.1.later;
        capacities = calls.1.capacities;
      }

      -- STOP NOSPACE comes only where so many bytes were allowed
      stops_at : (down : Bool) (stage : Option Stage) (answer : Option Answer) (event : Event)
          → old.down ≡ down → old.stage ≡ stage
          → NextMade down stage old.changes old.covered answer event
          → ShowsLoading stage old.copy old.trace
          → IfSome stage
          (λ s. HasPagesFor (copy_capacity (look old.volume).capacities (other_of old.copy))
          (weigh_feed old.feed) s event)
          → is_space_stop event ≡ true → loading_in None old.trace ≡ None → (start : Table)
          → IsStored (old_records old) start → least ≤ allowed_of start old.trace
      stops_at true stage None events.StepDown down runs next shown space is none start stored =
          absurd (cc (is))
      stops_at true stage None event down runs next shown space is none start stored = absurd next
      stops_at true stage (Some a) event down runs next shown space is none start stored =
          absurd next
      stops_at false None None events.Idle down runs next shown space is none start stored =
          absurd (cc (is))
      stops_at false None None event down runs next shown space is none start stored = absurd next
      stops_at false None (Some a) event down runs next shown space is none start stored =
          absurd next
      stops_at false (Some s) None event down runs next shown space is none start stored =
          absurd next
      stops_at false (Some s) (Some a) (Stop reasons.NoSpace) down runs next shown space is none
          start stored =
          let low = smaller_least (look old.volume).capacities (other_of old.copy) in
          omega (
            arith,
            low,
            space_allowed old s (copy_capacity (look old.volume).capacities (other_of old.copy))
                start (stepped.feed down) runs shown space none stored,
          )
      stops_at false (Some s) (Some a) event down runs next shown space is none start stored =
          absurd (cc (is))

      stops : (start : Table) → IsStored (old_records old) start
          → is_space_stop stepped.event ≡ true → loading_in None old.trace ≡ None
          → least ≤ allowed_of start old.trace
      stops start stored is none = stops_at old.down old.stage stepped.answer stepped.event refl
          refl stepped.next goes.loading stepped.loads.space is none start stored

      calls : CallsWithin look old new
      calls = calls_of stepped.answer stepped.only

      was_up : (b : Bool) → old.down ≡ b → new.down ≡ false → old.down ≡ false
      was_up true down up = absurd (cc (sym (made.stays_down down) ∙ up))
      was_up false down up = down

      -- the new layout is that of the pages that are read, after the step and before it
      turned_at : (event : Event) → TellsCopy look asked new event
          → new.copy ≡ copy_left old.copy event
          → IfSwitched
          (λ to sides. IfTold (look new.volume).told
          (λ t. HasSide to t.start (calls_of_last 0 old.trace) sides.new t
          × HasSide to t.start made.calls sides.new t)) event
      turned_at (events.Switched to sides) told copy =
          told_both (λ t. HasSide to t.start (calls_of_last 0 old.trace) sides.new t)
          (λ t. HasSide to t.start made.calls sides.new t) (look new.volume).told
          (side_before (WritesOwn old.trace) to (calls_of_last 0 old.trace) sides.new
          (look old.volume).told (look new.volume).told calls.only
          (switched_then to (calls_of_last 0 old.trace) sides.new new.contents (look old.volume)
          goes.counted
          (subst (λ (n : ℕ). IfTold (look old.volume).told (ReadsAll (set_of n) new.contents)) copy
          told.ready) told.new_side))
          (switched_then to made.calls sides.new new.contents (look new.volume) made.counted
          (subst (λ (n : ℕ). IfTold (look new.volume).told (ReadsAll (set_of n) new.contents)) copy
          told.reads) told.new_side)
      turned_at event told copy = tt

      -- the new copy that was written is read
      wrote_at : (event : Event) → TellsCopy look asked new event
          → new.copy ≡ copy_left old.copy event
          → IfWritten
          (λ pages. IfTold (look new.volume).told
          (λ t. ReadsPages (other_of known.copy) t.start made.calls pages t)) event
      wrote_at (events.Written pages) told copy =
          written_then (other_of known.copy) made.calls pages told.shadow.shade.pages
          (look new.volume) made.counted
          (subst
          (λ (n : ℕ). IfTold (look new.volume).told
          (ReadsAll (set_of (other_of n)) told.shadow.shade.pages)) (copy ∙ sym goes.copy_is)
          told.reads) told.pages_are
      wrote_at event told copy = tt

      by_down : (old.down ≡ true) ⊎ Rose (look old.volume).faults (look new.volume).faults
          → Rose (look first.volume).faults (look new.volume).faults
      by_down (inl down) = risen calls.later (goes.down down)
      by_down (inr rose) = rises rose

      room : (new.ground.capacity ≡ old.ground.capacity)
          ⊎ (new.ground.capacity ≡ copy_capacity (look old.volume).capacities (other_of old.copy))
          → smaller_pages (look old.volume).capacities ≤ new.ground.capacity
      room (inl same) = let least = goes.room in omega (arith, least, same)
      room (inr other) =
          let least = smaller_least (look old.volume).capacities (other_of old.copy) in
          omega (arith, least, other)

      -- the copy that is current after it is one that may be written
      own_copy : (answer : Option Answer) (event : Event) → IsStepEvent answer event
          → StepCalls look old answer new → IsSwitchFrom old.copy event
          → AllowsCopy old.trace (copy_left old.copy event)
      own_copy None (events.Switched to sides) is calls to_is = absurd is
      own_copy (Some a) (events.Switched to sides) is calls to_is = subst (AllowsCopy old.trace)
          (sym to_is) (goes.both calls.0 (other_of old.copy) (other_is old.copy))
      own_copy answer event is calls to_is = goes.own

      step_is : IsStepEvent stepped.answer stepped.event
      step_is = step_so old.down old.stage old.changes old.covered stepped.answer stepped.event
          stepped.next

      moves : Moves look old new entry
      moves = record {
        older = made.older;
        log_pages = made.log_pages;
        opened = made.opened;
        first_copy = made.first_copy;
        old_same = made.old_same;
        only = calls.only;
        later = calls.later;
        capacities = calls.capacities;
        room = room made.capacity;
        copy = made.copy ∙ sym (step_copy stepped.answer stepped.event step_is old.copy);
        own = allows_more entry new.copy
            (subst (AllowsCopy old.trace) (sym made.copy)
            (own_copy stepped.answer stepped.event step_is stepped.only made.to));
        both = λ runs copy which. allows_more entry copy (goes.both (made.runs runs) copy which);
        space = space_step (look old.volume).capacities old.copy old.trace old.stage _ stepped.event
            goes.loading stepped.loads.space
            (fills_idle old.down old.stage old.changes old.covered stepped.answer stepped.event
            stepped.next);
        loading = shown_step old.stage new.stage old.copy new.copy old.trace entry made.runs
            goes.loading stepped.loads.shows;
      }

log_opened : (entry : Entry) → IsOpenedEntry entry → (limit logged : ℕ)
    → IsLogFullFrom limit logged entry.event
log_opened entry is limit logged =
    subst (λ (e : Entry). IsLogFullFrom limit logged e.event) (sym is.is) tt

device_opened : (entry : Entry) → IsOpenedEntry entry → (P : Type 0) → IsDeviceIf P entry.event
device_opened entry is P = subst (λ (e : Entry). IsDeviceIf P e.event) (sym is.is) tt

-- the run begins with the entry of the opening
pub goes_opened : {V O : Type 0} (look : V → VolumeSeen) (answers : O → Option (List Answer))
    (desk : DeskState V O) → (opened : IsOpened desk) → opened.is.copy ≡ desk.copy
    → IsCount (look desk.volume) opened.entry.calls
    → smaller_pages (look desk.volume).capacities ≤ desk.ground.capacity → desk.stage ≡ None
    → Goes look answers desk [] desk
goes_opened {V} {O} look answers desk opened copy counted room idle = record {
  entries = subst (TraceOf []) (sym opened.trace) (opened.is, tt);
  begins = refl;
  full =
      λ start stored. subst (AreAllowed (3221 * smaller_pages (look desk.volume).capacities) start)
      (sym opened.trace)
      (allowed_opened opened.entry opened.is (3221 * smaller_pages (look desk.volume).capacities)
      start);
  log_full = subst (IsLogFullOnlyFrom (limit_of desk.ground.log.pages) 0) (sym opened.trace)
      (log_opened opened.entry opened.is (limit_of desk.ground.log.pages) 0, tt);
  space = subst (AreForSpace (look desk.volume).capacities None) (sym opened.trace)
      (space_opened (look desk.volume).capacities opened.entry opened.is);
  loading = subst (λ (o : Option Stage). ShowsLoading o desk.copy desk.trace) (sym idle) tt;
  device = subst (IsDeviceOnlyIf (Rose (look desk.volume).faults (look desk.volume).faults))
      (sym opened.trace) (
        device_opened opened.entry opened.is
            (Rose (look desk.volume).faults (look desk.volume).faults),
        tt,
      );
  down = λ down. absurd (cc (down, opened.up));
  fit =
      subst (λ (es : List Entry). IfTold (look desk.volume).told (λ t. FitSince t.start t es))
      (sym opened.trace)
      (told_all (look desk.volume).told (λ t. FitSince t.start t (opened.entry ∷ []))
      (λ t. opened_alone unopened t.start 0 t opened.entry opened.is));
  copy_is = ap (λ (es : List Entry). (known_of unopened es).copy) opened.trace
      ∙ ap (λ (e : Entry). copy_after 0 e.event) opened.is.is ∙ copy;
  clean = λ now up.
      let none : (known_of unopened desk.trace).clean ≡ false =
      ap (λ (es : List Entry). (known_of unopened es).clean) opened.trace
      ∙ ap (λ (e : Entry). clean_after false e.event) opened.is.is in
      absurd (cc (sym none ∙ now));
  first_pages = λ alone. refl;
  shown = subst (ShowsSecond (slots_of desk.contents)) (sym opened.trace) tt;
  counted = subst (IsCount (look desk.volume)) (sym (ap (calls_of_last 0) opened.trace)) counted;
  asked =
      subst
      (λ (es : List Entry). HasAnswered (answers desk.operator) (answers_in es)
      (answers desk.operator)) (sym opened.trace)
      (subst
      (λ (e : Entry). HasAnswered (answers desk.operator) (answers_in (e ∷ []))
      (answers desk.operator)) (sym opened.is.is) (unasked (answers desk.operator)));
  room = room;
  own = λ call writes. own_part desk.trace opened.entry opened.is desk.copy copy
      (ap first_of opened.trace) call writes;
  both = λ runs. absurd (cc (runs, ap (λ (o : Option Stage). is_some o) idle));
  stays = record {
    older = refl;
    log_pages = refl;
    opened = refl;
    first_copy = refl;
    old_same = refl;
    only = no_calls (WritesOwn desk.trace) (look desk.volume).told;
    later = omega arith;
    capacities = refl;
  };
}

-- the new copy that a desk keeps is no matter of its entries
pub goes_dropped : {V O : Type 0} {answers : O → Option (List Answer)} (look : V → VolumeSeen)
    (first desk new : DeskState V O) (lines : List Line) → new ≡ record desk { shadow = None }
    → Goes look answers first lines desk → Goes look answers first lines new
goes_dropped {V} {O} {answers} look first desk new lines same goes =
    subst (Goes look answers first lines) (sym same) (record {
      entries = goes.entries;
      begins = goes.begins;
      full = goes.full;
      log_full = goes.log_full;
      space = goes.space;
      loading = goes.loading;
      device = goes.device;
      down = goes.down;
      fit = goes.fit;
      copy_is = goes.copy_is;
      clean = goes.clean;
      first_pages = goes.first_pages;
      shown = goes.shown;
      counted = goes.counted;
      asked = goes.asked;
      room = goes.room;
      own = goes.own;
      both = goes.both;
      stays = record {
        older = goes.stays.older;
        log_pages = goes.stays.log_pages;
        opened = goes.stays.opened;
        first_copy = goes.stays.first_copy;
        old_same = goes.stays.old_same;
        only = goes.stays.only;
        later = goes.stays.later;
        capacities = goes.stays.capacities;
      };
    })
