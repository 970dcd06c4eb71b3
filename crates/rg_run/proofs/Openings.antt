-- What read at an opening stays as it was, and no other entry is one.
use Rattle.std.proofs.Common.{◌≡◌, ◌≤◌, ◌+◌, ℕ, List, [], ◌∷◌, ◌++◌, Option, Some, None, length}
use Rattle.std.proofs.Common.{sym, ◌∙◌, ap, subst, arith, length-append}
use Rattle.std.specs.List.{AllByRecursion, AllZip}
use Rattle.rg_base.specs.declared.control.Answer.{Answer}
use Rattle.rg_base.specs.declared.options.Options.{Options}
use Rattle.rg_engine.specs.Layouts.{IsLayout}
use Rattle.rg_engine.specs.Stored.{IsStored}
use Rattle.rg_outside.specs.Volume.{VolumeSeen}
use Rattle.rg_image.specs.Log.{log_of}
use Rattle.rg_log.specs.Kept.{log_pages}
use Rattle.rg_model.specs.State.{Table}
use Rattle.rg_outside.specs.Calls.{Call, Image, Told, read_of}
use Rattle.rg_outside.specs.Capacities.{Capacities}
use Rattle.rg_outside.specs.Moments.{EachCall, IfTold, read_at}
use Rattle.rg_laws_crash.specs.SoundVolume.Sound.{IsSound}
use Rattle.rg_stmt.specs.declared.event.Entry.{Entry}
use Rattle.rg_stmt.specs.declared.event.Event.{Event}
use Rattle.rg_stmt.specs.declared.event.Event.TheVariants as events
use Rattle.rg_stmt.specs.declared.line.Line.{Line}
use Rattle.rg_stmt.specs.declared.line.Line.TheVariants.{Death, Flush, Reorg, Said, Show, Step}
use Rattle.rg_run.specs.Fit.{calls_of_last}
use Rattle.rg_run.specs.Opening.{AreOpeningsFrom, IfOpened, IsFoundThen, IsOpeningOf}
use Rattle.rg_run.specs.Opening.{IsOpeningThen, ReadSo}
use Rattle.rg_run.proofs.Fits.{calls_then}
use Rattle.rg_run.specs.Parts.{AreParts, IsAlive, IsFound, OpensOnce}
use Rattle.rg_run.specs.Parts.AreParts.{Next, One}
use Rattle.rg_run.specs.Played.{EntryOf, IsFlushed, IsStartEvent, IsStepEvent, TraceOf, first_of}

-- ---- events

opened_so : (P : Type 0) (event : Event) → P → IfOpened P event
opened_so P (events.Opened copy rows pages used) p = p
opened_so P event p = tt

opened_more : (P Q : Type 0) (event : Event) → (P → Q) → IfOpened P event → IfOpened Q event
opened_more P Q (events.Opened copy rows pages used) f p = f p
opened_more P Q event f p = tt

layout_none : (P : Type 0) (copy : ℕ) (event : Event) → IsLayout copy event → IfOpened P event
layout_none P copy (events.Opened k rows pages used) is = absurd is
layout_none P copy event is = tt

flushed_none : (P : Type 0) (event : Event) → IsFlushed event → IfOpened P event
flushed_none P (events.Opened k rows pages used) is = absurd is
flushed_none P event is = tt

start_none : (P : Type 0) (options : Options) (event : Event) → IsStartEvent options event
    → IfOpened P event
start_none P options (events.Opened k rows pages used) is = absurd is
start_none P options event is = tt

step_none : (P : Type 0) (answer : Option Answer) (event : Event) → IsStepEvent answer event
    → IfOpened P event
step_none P None (events.Opened k rows pages used) is = absurd is
step_none P (Some answer) (events.Opened k rows pages used) is = absurd (cc (is))
step_none P answer event is = tt

entry_none : (P : Type 0) (line : Line) (entry : Entry) → EntryOf line entry → IsAlive line
    → IfOpened P entry.event
entry_none P (Said session stmt) entry of alive =
    subst (λ (e : Entry). IfOpened P e.event) (sym of.1) tt
entry_none P (Reorg options) entry of alive =
    subst (λ (e : Entry). IfOpened P e.event) (sym of.1) (start_none P options of.0 of.2)
entry_none P Step entry of alive =
    subst (λ (e : Entry). IfOpened P e.event) (sym of.2) (step_none P of.0 of.1 of.3)
entry_none P Flush entry of alive =
    subst (λ (e : Entry). IfOpened P e.event) (sym of.1) (flushed_none P of.0 of.2)
entry_none P Show entry of alive =
    subst (λ (e : Entry). IfOpened P e.event) (sym of.2) (layout_none P of.0 of.1 of.3)
entry_none P Death entry of alive = absurd alive

rest_none : (P : Entry → Type 0) (lines : List Line) (entries : List Entry)
    → AllZip EntryOf lines entries → AllByRecursion IsAlive lines
    → AllByRecursion (λ entry. IfOpened (P entry) entry.event) entries
rest_none P [] [] of alive = tt
rest_none P [] (e ∷ es) of alive = absurd of
rest_none P (l ∷ ls) [] of alive = absurd of
rest_none P (l ∷ ls) (e ∷ es) of alive =
    (entry_none (P e) l e of.0 alive.0, rest_none P ls es of.1 alive.1)

rest_openings : (capacities : Capacities) (start n : ℕ) (t : Told) (lines : List Line)
    (entries : List Entry) → AllZip EntryOf lines entries → AllByRecursion IsAlive lines
    → AreOpeningsFrom capacities start n t entries
rest_openings capacities start n t [] [] of alive = tt
rest_openings capacities start n t [] (e ∷ es) of alive = absurd of
rest_openings capacities start n t (l ∷ ls) [] of alive = absurd of
rest_openings capacities start n t (l ∷ ls) (e ∷ es) of alive = (
  entry_none (IsOpeningThen capacities start n t e) l e of.0 alive.0,
  rest_openings capacities start e.calls t ls es of.1 alive.1,
)

-- the first entry of a part is its one opening
pub part_opened : (capacities : Capacities) (start n : ℕ) (t : Told) (lines : List Line)
    (part : List Entry) (entry : Entry) → TraceOf lines part → first_of part ≡ Some entry
    → AllByRecursion IsAlive lines → IsOpeningThen capacities start n t entry
    → AreOpeningsFrom capacities start n t part
part_opened capacities start n t lines [] entry of first alive opens = tt
part_opened capacities start n t lines (e ∷ es) entry of first alive opens = (
  opened_so (IsOpeningThen capacities start n t e) e.event
      (subst (IsOpeningThen capacities start n t) (cc (sym first)) opens),
  rest_openings capacities start e.calls t lines es of.1 alive,
)

-- so it has one opening only
pub opens_once : (lines : List Line) (part : List Entry) → TraceOf lines part
    → AllByRecursion IsAlive lines → OpensOnce part
opens_once lines [] of alive = absurd of
opens_once lines (e ∷ es) of alive = (of.0, rest_none (λ entry. ⊥) lines es of.1 alive)

-- ---- moments

-- what read at an earlier moment stays as it was
earlier_reads : (before : Told) (fresh : List Call) (c : ℕ) → c ≤ length before.calls
    → read_at (record before { calls = fresh ++ before.calls }) c ≡ read_at before c
earlier_reads before fresh c low = ap (read_of before.first) (calls_then before fresh c low)

read_on : (P : Image → Type 0) (start calls : ℕ) (before : Told) (fresh : List Call)
    → ReadSo P start calls before
    → ReadSo P start calls (record before { calls = fresh ++ before.calls })
read_on P start calls before fresh so =
    let low = so.0 in
    let longer = length-append fresh before.calls in (
      omega (arith, low, longer),
      subst P (sym (earlier_reads before fresh (start + calls) so.0)) so.1,
    )

-- what was found stays so over more calls
found_calls :
    (Kind : Call → Type 0) (pages : ℕ) (old new : Option Told) (n : ℕ) (table : Table)
    → EachCall old new Kind → IfTold old (λ t. IsFoundThen pages t.start n t table)
    → IfTold new (λ t. IsFoundThen pages t.start n t table)
found_calls Kind pages old None n table made found = tt
found_calls Kind pages None (Some after) n table made found = absurd (cc (made.2))
found_calls Kind pages (Some before) (Some after) n table made found =
    let was : before ≡ made.0 = cc (made.2) in
    let is : after ≡ record before { calls = made.1 ++ before.calls } = made.3
    ∙ ap (λ (t : Told). let u : Told = record t { calls = made.1 ++ t.calls } in u) (sym was) in
    subst (λ (t : Told). IsFoundThen pages t.start n t table) (sym is)
    (read_on (λ i. IsStored (log_of pages i) table) before.start n before made.1 found)

pub found_on : (Kind : Call → Type 0) (old new : VolumeSeen) (n : ℕ) (table : Table)
    → EachCall old.told new.told Kind → new.capacities ≡ old.capacities → IsFound old n table
    → IsFound new n table
found_on Kind old new n table made same found =
    subst
    (λ (c : Capacities). IfTold new.told (λ t. IsFoundThen (log_pages c) t.start n t table))
    (sym same) (found_calls Kind (log_pages old.capacities) old.told new.told n table made found)

-- the same parts, by other facts of the tables
pub parts_more : (P Q : Table → Type 0) (F G : ℕ → Table → Type 0)
    (I J : Table → List Entry → Type 0) (trace : List Entry) → ((start : Table) → P start → Q start)
    → ((n : ℕ) (start : Table) → F n start → G n start)
    → ((start : Table) (part : List Entry) → I start part → J start part)
    → AreParts P F I trace → AreParts Q G J trace
parts_more P Q F G I J trace f g h (One part start first is) =
    One part start (f start first) (h start part is)
parts_more P Q F G I J trace f g h (Next before part start parts found is) = Next before part start
    (parts_more P Q F G I J before f g h parts) (g (calls_of_last 0 before) start found)
    (h start part is)

-- openings stay so over more calls
openings_each : (capacities : Capacities) (start n : ℕ) (before : Told) (fresh : List Call)
    (trace : List Entry) → AreOpeningsFrom capacities start n before trace
    → AreOpeningsFrom capacities start n (record before { calls = fresh ++ before.calls }) trace
openings_each capacities start n before fresh [] all = tt
openings_each capacities start n before fresh (e ∷ es) all = (
  opened_more (IsOpeningThen capacities start n before e)
      (IsOpeningThen capacities start n (record before { calls = fresh ++ before.calls }) e)
      e.event
      (read_on (λ i. IsOpeningOf (log_of (log_pages capacities) i) e × IsSound capacities i) start
      n before fresh) all.0,
  openings_each capacities start e.calls before fresh es all.1,
)

pub openings_on :
    (Kind : Call → Type 0) (capacities : Capacities) (old new : Option Told) (n : ℕ)
    (trace : List Entry) → EachCall old new Kind
    → IfTold old (λ t. AreOpeningsFrom capacities t.start n t trace)
    → IfTold new (λ t. AreOpeningsFrom capacities t.start n t trace)
openings_on Kind capacities old None n trace made all = tt
openings_on Kind capacities None (Some after) n trace made all = absurd (cc (made.2))
openings_on Kind capacities (Some before) (Some after) n trace made all =
    let was : before ≡ made.0 = cc (made.2) in
    let is : after ≡ record before { calls = made.1 ++ before.calls } = made.3
    ∙ ap (λ (t : Told). let u : Told = record t { calls = made.1 ++ t.calls } in u) (sym was) in
    subst (λ (t : Told). AreOpeningsFrom capacities t.start n t trace) (sym is)
    (openings_each capacities before.start n before made.1 trace all)

-- those of a part come after those before it
pub openings_join : (capacities : Capacities) (start n : ℕ) (t : Told) (older part : List Entry)
    → AreOpeningsFrom capacities start n t older
    → AreOpeningsFrom capacities start (calls_of_last n older) t part
    → AreOpeningsFrom capacities start n t (older ++ part)
openings_join capacities start n t [] part all more = more
openings_join capacities start n t (e ∷ es) part all more =
    (all.0, openings_join capacities start e.calls t es part all.1 more)

-- the same calls, as another count has them
pub recounted_openings : (capacities : Capacities) (start n count : ℕ) (t : Told)
    (trace : List Entry) → AreOpeningsFrom capacities start n (record t { start = count }) trace
    → AreOpeningsFrom capacities start n t trace
recounted_openings capacities start n count t [] all = tt
recounted_openings capacities start n count t (e ∷ es) all =
    (all.0, recounted_openings capacities start e.calls count t es all.1)
