-- What entries tell of the calls stays so over more calls, and goes on by one entry.
use Rattle.std.proofs.Common.{◌≡◌, ◌≤◌, ◌<◌, ◌+◌, ◌-◌, ℕ, Bool, true, false, List, [], ◌∷◌}
use Rattle.std.proofs.Common.{◌++◌, Option, Some, None, length, drop, refl, sym, ◌∙◌, ap, subst}
use Rattle.std.proofs.Common.{arith, length-append}
use Rattle.std.proofs.Math.Seq.{drop-append-add}
use Rattle.std.proofs.lemmas.List.Sums.{count_by-le-length}
use Rattle.rg_base.specs.Copies.{other_of, set_of}
use Rattle.rg_base.specs.declared.control.Answer.{Answer}
use Rattle.rg_base.specs.declared.options.Options.{Options}
use Rattle.rg_base.specs.declared.position.Position.{Position}
use Rattle.rg_base.specs.declared.verdict.StopReason.TheVariants as reasons
use Rattle.rg_engine.specs.Steps.{is_commit}
use Rattle.rg_engine.specs.Layouts.{IsLayout, IsSideOf}
use Rattle.rg_engine.specs.Flushed.{FlushIs, ReadsAll, WrotePage}
use Rattle.rg_engine.specs.Volume.{IsCount}
use Rattle.rg_outside.specs.Volume.{VolumeSeen}
use Rattle.rg_outside.specs.Calls.{Call, Told, faults_of, is_failed, read_of}
use Rattle.rg_outside.specs.Faults.{Rose}
use Rattle.rg_outside.specs.Made.{CountsFailed}
use Rattle.rg_outside.specs.Moments.{EachCall, IfTold, faults_at, moment}
use Rattle.rg_outside.proofs.Every.{told_both, told_weaken}
use Rattle.rg_laws_crash.specs.PageVersions.Versions.{Spells}
use Rattle.rg_page.specs.Content.{Content, content_at, slots_of}
use Rattle.rg_page.specs.Bytes.PageBytes.{page_bytes}
use Rattle.rg_phase.specs.Step.{copy_left, is_device_stop, may_call}
use Rattle.rg_stmt.specs.declared.event.Entry.{Entry}
use Rattle.rg_stmt.specs.declared.event.Event.{Event}
use Rattle.rg_stmt.specs.declared.event.Event.TheVariants as events
use Rattle.rg_stmt.specs.declared.layout.Side.{Side}
use Rattle.rg_stmt.specs.declared.layout.Sides.{Sides}
use Rattle.rg_stmt.specs.declared.line.Line.{Line}
use Rattle.rg_stmt.specs.declared.stmt.Reply.{Reply}
use Rattle.rg_stmt.specs.declared.stmt.Reply.TheVariants.{Device}
use Rattle.rg_stmt.specs.declared.stmt.Stmt.{Stmt}
use Rattle.rg_stmt.specs.declared.stmt.Stmt.TheVariants.{Commit}
use Rattle.rg_model.specs.Changes.{unit_writes, unit_writes_after}
use Rattle.rg_model.specs.Run.{behind}
use Rattle.rg_run.specs.Fit.{FailedSince, FailedThen, FitFrom, FitSince, FitsThen, ReadsPages}
use Rattle.rg_run.specs.Fit.{HasSide, IfClean, Known, WroteThen, calls_of_last, copy_after}
use Rattle.rg_run.specs.Fit.{known_after, known_of, unopened, writes_of}
use Rattle.rg_run.specs.Played.{IsFlushed, IsOpenedEntry, IsStartEvent, IsStepEvent, TraceOf}

-- what holds of every known volume
pub told_all : (told : Option Told) (P : Told → Type 0) → ((t : Told) → P t) → IfTold told P
told_all None P f = tt
told_all (Some t) P f = f t

-- ---- other entries

pub layout_keeps : (copy : ℕ) (event : Event) → IsLayout copy event → (k : ℕ)
    → copy_after k event ≡ k
layout_keeps copy (events.Opened opened rows pages used) is k = absurd is
layout_keeps copy (events.Switched to sides) is k = absurd is
layout_keeps copy event is k = refl

-- no call was made
pub no_call : (old new : VolumeSeen) (since calls : ℕ) → IsCount old since → IsCount new calls
    → new ≡ old → IfTold new.told (λ t. calls ≡ since)
no_call old new since calls was now same =
    told_weaken (λ t. (length t.calls ≡ t.start + since) × (length t.calls ≡ t.start + calls))
    (λ t. calls ≡ since) new.told (λ t both. omega (arith, both.0, both.1))
    (told_both (λ t. length t.calls ≡ t.start + since) (λ t. length t.calls ≡ t.start + calls)
    new.told
    (subst (λ (v : VolumeSeen). IfTold v.told (λ t. length t.calls ≡ t.start + since)) (sym same)
    was) now)

-- the event shows no layout, or this holds of it
abbrev pub IfShown : (Side → Type 0) → Event → Type 0
IfShown P (events.Layout copy side) = P side
IfShown P event = Unit {0}

pub layout_tells : (copy : ℕ) (event : Event) → IsLayout copy event
    → (k : Known) (own start before calls : ℕ) (t : Told) → calls ≡ before
    → IfShown (λ side. IfClean k.clean (HasSide k.copy start calls side t)) event
    → FitsThen k own start before calls t event
layout_tells copy (events.Flush page) is k own start before calls t same shown = absurd is
layout_tells copy events.FlushDevice is k own start before calls t same shown = absurd is
layout_tells copy (events.Said stmt reply) is k own start before calls t same shown = absurd is
layout_tells copy (events.Stop reason) is k own start before calls t same shown = absurd is
layout_tells copy (events.Switched to sides) is k own start before calls t same shown = absurd is
layout_tells copy (events.Written pages) is k own start before calls t same shown = absurd is
layout_tells copy (events.Opened opened rows pages used) is k own start before calls t same shown =
    absurd is
layout_tells copy (events.Layout of_copy side) is k own start before calls t same shown =
    (same, shown)
layout_tells copy event is k own start before calls t same shown = same

pub flushed_keeps : (event : Event) → IsFlushed event → (k : ℕ) → copy_after k event ≡ k
flushed_keeps (events.Opened opened rows pages used) is k = absurd is
flushed_keeps (events.Switched to sides) is k = absurd is
flushed_keeps event is k = refl

pub start_keeps : (options : Options) (event : Event) → IsStartEvent options event → (k : ℕ)
    → copy_after k event ≡ k
start_keeps options (events.Opened opened rows pages used) is k = absurd is
start_keeps options (events.Switched to sides) is k = absurd is
start_keeps options event is k = refl

pub start_tells : (options : Options) (event : Event) → IsStartEvent options event
    → (k : Known) (own start before calls : ℕ) (t : Told) → calls ≡ before
    → FitsThen k own start before calls t event
start_tells options (events.Flush page) is k own start before calls t same = absurd is
start_tells options events.FlushDevice is k own start before calls t same = absurd is
start_tells options (events.Said stmt reply) is k own start before calls t same = absurd is
start_tells options (events.Stop reason) is k own start before calls t same = absurd is
start_tells options (events.Switched to sides) is k own start before calls t same = absurd is
start_tells options (events.Written pages) is k own start before calls t same = absurd is
start_tells options (events.Opened opened rows pages used) is k own start before calls t same =
    absurd is
start_tells options (events.Layout copy side) is k own start before calls t same = absurd is
start_tells options event is k own start before calls t same = same

pub step_copy : (answer : Option Answer) (event : Event) → IsStepEvent answer event → (k : ℕ)
    → copy_after k event ≡ copy_left k event
step_copy None (events.Opened opened rows pages used) is k = absurd is
step_copy (Some answer) (events.Opened opened rows pages used) is k = absurd (cc (is))
step_copy answer event is k = refl

-- the event is no switch, or this holds of it
abbrev pub IfSwitched : (ℕ → Sides → Type 0) → Event → Type 0
IfSwitched P (events.Switched to sides) = P to sides
IfSwitched P event = Unit {0}

-- the event is not that of the new copy's write, or this holds of its pages
abbrev pub IfWritten : (ℕ → Type 0) → Event → Type 0
IfWritten P (events.Written pages) = P pages
IfWritten P event = Unit {0}

pub step_tells : (answer : Option Answer) (event : Event) → IsStepEvent answer event
    → (told : Option Told) (k : Known) (own since calls : ℕ)
    → (is_device_stop event ≡ true → IfTold told (λ t. FailedThen t.start since calls t))
    → (may_call event ≡ false → IfTold told (λ t. calls ≡ since))
    → IfSwitched
    (λ to sides. IfTold told
    (λ t. HasSide to t.start since sides.new t × HasSide to t.start calls sides.new t)) event
    → IfWritten (λ pages. IfTold told (λ t. ReadsPages (other_of k.copy) t.start calls pages t))
    event
    → IfTold told (λ t. FitsThen k own t.start since calls t event)
step_tells None (events.Flush page) is told k own since calls failed quiet turned wrote = absurd is
step_tells (Some answer) (events.Flush page) is told k own since calls failed quiet turned wrote =
    absurd (cc (is))
step_tells None events.FlushDevice is told k own since calls failed quiet turned wrote = absurd is
step_tells (Some answer) events.FlushDevice is told k own since calls failed quiet turned wrote =
    absurd (cc (is))
step_tells None (events.Said stmt reply) is told k own since calls failed quiet turned wrote =
    absurd is
step_tells (Some answer) (events.Said stmt reply) is told k own since calls failed quiet turned
    wrote =
    absurd (cc (is))
step_tells None (events.Layout copy side) is told k own since calls failed quiet turned wrote =
    absurd is
step_tells (Some answer) (events.Layout copy side) is told k own since calls failed quiet turned
    wrote =
    absurd (cc (is))
step_tells None (events.Stop reason) is told k own since calls failed quiet turned wrote = absurd is
step_tells (Some answer) (events.Stop reasons.Device) is told k own since calls failed quiet turned
    wrote = failed refl
step_tells answer (events.Switched to sides) is told k own since calls failed quiet turned wrote =
    turned
step_tells answer (events.Written pages) is told k own since calls failed quiet turned wrote = wrote
step_tells None (events.Opened opened rows pages used) is told k own since calls failed quiet turned
    wrote = absurd is
step_tells (Some answer) (events.Opened opened rows pages used) is told k own since calls failed
    quiet
    turned wrote = absurd (cc (is))
step_tells answer event is told k own since calls failed quiet turned wrote = quiet refl

-- what the switch leaves reads so
pub switched_then : (to calls : ℕ) (side : Side) (contents : List Content) (seen : VolumeSeen)
    → IsCount seen calls → IfTold seen.told (ReadsAll (set_of to) contents)
    → IsSideOf (slots_of contents) side
    → IfTold seen.told (λ t. HasSide to t.start calls side t)
switched_then to calls side contents seen count reads is =
    told_weaken (λ t. (length t.calls ≡ t.start + calls) × ReadsAll (set_of to) contents t)
    (λ t. HasSide to t.start calls side t) seen.told
    (λ t both.
    let all : length t.calls - (t.start + calls) ≡ 0 = omega (arith, both.0) in
    record {
      high = omega (arith, both.0);
      pages = contents;
      side_is = is;
      reads = λ p one high.
          subst
          (λ (n : ℕ). Spells (read_of t.first (drop n t.calls) (set_of to) p)
          (content_at contents p)) (sym all) (both.1 p one high);
    }) (told_both (λ t. length t.calls ≡ t.start + calls) (ReadsAll (set_of to) contents) seen.told
    count reads)

-- so do the pages of a copy that was written
pub written_then : (copy calls count : ℕ) (contents : List Content) (seen : VolumeSeen)
    → IsCount seen calls → IfTold seen.told (ReadsAll (set_of copy) contents)
    → length contents ≡ count → IfTold seen.told (λ t. ReadsPages copy t.start calls count t)
written_then copy calls count contents seen counted reads is =
    told_weaken (λ t. (length t.calls ≡ t.start + calls) × ReadsAll (set_of copy) contents t)
    (λ t. ReadsPages copy t.start calls count t) seen.told
    (λ t both.
    let all : length t.calls - (t.start + calls) ≡ 0 = omega (arith, both.0) in
    record {
      high = omega (arith, both.0);
      pages = contents;
      count_is = is;
      reads = λ p one high.
          subst
          (λ (n : ℕ). Spells (read_of t.first (drop n t.calls) (set_of copy) p)
          (content_at contents p)) (sym all) (both.1 p one high);
    })
    (told_both (λ t. length t.calls ≡ t.start + calls) (ReadsAll (set_of copy) contents) seen.told
    counted reads)

-- what is so where a number is 0 is so of each that is told
if_zero : (told : Option Told) (n : ℕ) (P : Told → Type 0) → (n ≡ 0 → IfTold told P)
    → IfTold told (λ t. n ≡ 0 → P t)
if_zero None n P holds = tt
if_zero (Some t) n P holds = holds

pub said_tells : (stmt : Stmt) (reply : Reply) (told : Option Told) (k : Known)
    (own since calls : ℕ)
    → (reply ≡ Device → IfTold told (λ t. FailedThen t.start since calls t))
    → (is_commit stmt ≡ false → IfTold told (λ t. calls ≡ since))
    → (own ≡ 0 → IfTold told (λ t. calls ≡ since))
    → IfTold told (λ t. FitsThen k own t.start since calls t (events.Said stmt reply))
said_tells stmt Device told k own since calls failed quiet idle = failed refl
said_tells Commit reply told k own since calls failed quiet idle =
    if_zero told own (λ t. calls ≡ since) idle
said_tells stmt reply told k own since calls failed quiet idle = quiet refl

-- ---- parts

-- the entry of an opening tells nothing, whatever came before it
pub opened_alone : (k : Known) (start before : ℕ) (t : Told) (entry : Entry) → IsOpenedEntry entry
    → FitFrom k start before t (entry ∷ [])
opened_alone k start before t entry opened =
    subst (λ (e : Entry). FitFrom k start before t (e ∷ [])) (sym opened.is) (tt, tt)

opened_from : (k other : Known) (start before then : ℕ) (t : Told) (entry : Entry)
    (entries : List Entry) → IsOpenedEntry entry → FitFrom k start before t (entry ∷ entries)
    → FitFrom other start then t (entry ∷ entries)
opened_from k other start before then t entry entries opened =
    subst
    (λ (e : Entry). FitFrom k start before t (e ∷ entries) → FitFrom other start
    then t (e ∷ entries)) (sym opened.is) (λ all. all)

pub fit_join :
    (start : ℕ) (t : Told) (k : Known) (before : ℕ) (lines : List Line) (older part : List Entry)
    → TraceOf lines part → FitFrom k start before t older → FitSince start t part
    → FitFrom k start before t (older ++ part)
fit_join start t k before lines [] [] of all more = tt
fit_join start t k before lines [] (e ∷ es) of all more =
    opened_from unopened k start 0 before t e es of.0 more
fit_join start t k before lines (e ∷ older) part of all more =
    (all.0, fit_join start t (known_after k e) e.calls lines older part of all.1 more)

-- ---- one entry more

pub fit_push : (k : Known) (start before : ℕ) (t : Told) (trace : List Entry) (entry : Entry)
    → FitFrom k start before t trace
    → FitsThen (known_of k trace) (writes_of (known_of k trace) entry.actor) start
    (calls_of_last before trace) entry.calls t entry.event
    → FitFrom k start before t (trace ++ entry ∷ [])
fit_push k start before t [] entry all one = (one, tt)
fit_push k start before t (e ∷ es) entry all one =
    (all.0, fit_push (known_after k e) start e.calls t es entry all.1 one)

pub known_push : (k : Known) (trace : List Entry) (entry : Entry)
    → known_of k (trace ++ entry ∷ []) ≡ known_after (known_of k trace) entry
known_push k [] entry = refl
known_push k (e ∷ es) entry = known_push (known_after k e) es entry

-- how many writes each unit has made is told by the entries alone
pub writes_known : (k : Known) (past trace : List Entry) (session : ℕ)
    → k.writes session ≡ unit_writes session past
    → (known_of k trace).writes session ≡ unit_writes session (behind past trace)
writes_known k past [] session is = is
writes_known k past (e ∷ es) session is = writes_known (known_after k e) (e ∷ past) es session
    (ap (unit_writes_after session e.actor e.event) is)

pub calls_push : (calls : ℕ) (trace : List Entry) (entry : Entry)
    → calls_of_last calls (trace ++ entry ∷ []) ≡ entry.calls
calls_push calls [] entry = refl
calls_push calls (e ∷ es) entry = calls_push e.calls es entry

-- ---- more calls

-- the calls up to an earlier moment stay as they were
pub calls_then : (before : Told) (fresh : List Call) (c : ℕ) → c ≤ length before.calls
    → (moment (record before { calls = fresh ++ before.calls }) c).calls ≡ (moment before c).calls
calls_then before fresh c low =
    ap (λ (n : ℕ). drop n (fresh ++ before.calls))
    (sum (length (fresh ++ before.calls)) (length fresh) (length before.calls) c
    (length-append fresh before.calls) low)
    ∙ drop-append-add fresh before.calls (length before.calls - c)
  where
    sum : (all m n s : ℕ) → all ≡ m + n → s ≤ n → all - s ≡ m + (n - s)
    sum all m n s e low = omega (arith, e, low)

failed_on : (start since calls : ℕ) (before : Told) (fresh : List Call)
    → FailedThen start since calls before
    → FailedThen start since calls (record before { calls = fresh ++ before.calls })
failed_on start since calls before fresh is =
    let high = is.high in
    let low = is.since in
    let longer = length-append fresh before.calls in
    record {
      high = omega (arith, high, longer);
      since = is.since;
      failed = λ few.
          subst
          (λ (n : ℕ). n
          < faults_of
          (moment (record before { calls = fresh ++ before.calls }) (start + calls)).calls)
          (sym (ap faults_of (calls_then before fresh (start + since) (omega (arith, high, low)))))
          (subst (λ (n : ℕ). faults_at before (start + since) < n)
          (sym (ap faults_of (calls_then before fresh (start + calls) is.high)))
          (is.failed (omega (arith, few, longer))));
    }

side_on : (copy start calls : ℕ) (side : Side) (before : Told) (fresh : List Call)
    → HasSide copy start calls side before
    → HasSide copy start calls side (record before { calls = fresh ++ before.calls })
side_on copy start calls side before fresh is =
    let high = is.high in
    let longer = length-append fresh before.calls in
    record {
      high = omega (arith, high, longer);
      pages = is.pages;
      side_is = is.side_is;
      reads = λ p one low.
          subst
          (λ (cs : List Call). Spells (read_of before.first cs (set_of copy) p)
          (content_at is.pages p)) (sym (calls_then before fresh (start + calls) is.high))
          (is.reads p one low);
    }

pages_on : (copy start calls count : ℕ) (before : Told) (fresh : List Call)
    → ReadsPages copy start calls count before
    → ReadsPages copy start calls count (record before { calls = fresh ++ before.calls })
pages_on copy start calls count before fresh is =
    let high = is.high in
    let longer = length-append fresh before.calls in
    record {
      high = omega (arith, high, longer);
      pages = is.pages;
      count_is = is.count_is;
      reads = λ p one low.
          subst
          (λ (cs : List Call). Spells (read_of before.first cs (set_of copy) p)
          (content_at is.pages p)) (sym (calls_then before fresh (start + calls) is.high))
          (is.reads p one low);
    }

clean_more : (P Q : Type 0) (clean : Bool) → (P → Q) → IfClean clean P → IfClean clean Q
clean_more P Q true f p = f p
clean_more P Q false f p = tt

-- a layout that pages had when they were read before, they had then
pub side_before : (Kind : Call → Type 0) (copy since : ℕ) (side : Side) (old new : Option Told)
    → EachCall old new Kind → IfTold old (λ t. HasSide copy t.start since side t)
    → IfTold new (λ t. HasSide copy t.start since side t)
side_before Kind copy since side old None made has = tt
side_before Kind copy since side None (Some after) made has = absurd (cc (made.2))
side_before Kind copy since side (Some before) (Some after) made has =
    let was : before ≡ made.0 = cc (made.2) in
    let is : after ≡ record before { calls = made.1 ++ before.calls } = made.3
    ∙ ap (λ (t : Told). let u : Told = record t { calls = made.1 ++ t.calls } in u) (sym was) in
    subst (λ (t : Told). HasSide copy t.start since side t) (sym is)
    (side_on copy before.start since side before made.1 has)

event_on : (k : Known) (own start since calls : ℕ) (before : Told) (fresh : List Call)
    (event : Event)
    → FitsThen k own start since calls before event
    → FitsThen k own start since calls (record before { calls = fresh ++ before.calls }) event
event_on k own start since calls before fresh (events.Flush page) is =
    let high = is.high in
    let longer = length-append fresh before.calls in
    record {
      high = omega (arith, high, longer);
      since = is.since;
      bytes = is.bytes;
      rest = is.rest;
      last = calls_then before fresh (start + calls) is.high ∙ is.last;
    }
event_on k own start since calls before fresh events.FlushDevice is =
    failed_on start since calls before fresh is
event_on k own start since calls before fresh (events.Said stmt Device) is =
    failed_on start since calls before fresh is
event_on k own start since calls before fresh (events.Stop reasons.Device) is =
    failed_on start since calls before fresh is
event_on k own start since calls before fresh (events.Layout copy side) is = (
  is.0,
  clean_more (HasSide k.copy start calls side before)
      (HasSide k.copy start calls side (record before { calls = fresh ++ before.calls })) k.clean
      (side_on k.copy start calls side before fresh) is.1,
)
event_on k own start since calls before fresh (events.Switched to sides) is = (
  side_on to start since sides.new before fresh is.0,
  side_on to start calls sides.new before fresh is.1,
)
event_on k own start since calls before fresh (events.Written pages) is =
    pages_on (other_of k.copy) start calls pages before fresh is
event_on k own start since calls before fresh event is = is

each_on : (k : Known) (start since : ℕ) (before : Told) (fresh : List Call) (trace : List Entry)
    → FitFrom k start since before trace
    → FitFrom k start since (record before { calls = fresh ++ before.calls }) trace
each_on k start since before fresh [] all = tt
each_on k start since before fresh (e ∷ es) all = (
  event_on k (writes_of k e.actor) start since e.calls before fresh e.event all.0,
  each_on (known_after k e) start e.calls before fresh es all.1,
)

pub fit_on : (Kind : Call → Type 0) (old new : Option Told) (k : Known) (since : ℕ)
    (trace : List Entry) → EachCall old new Kind
    → IfTold old (λ t. FitFrom k t.start since t trace)
    → IfTold new (λ t. FitFrom k t.start since t trace)
fit_on Kind old None k since trace made all = tt
fit_on Kind None (Some after) k since trace made all = absurd (cc (made.2))
fit_on Kind (Some before) (Some after) k since trace made all =
    let was : before ≡ made.0 = cc (made.2) in
    let is : after ≡ record before { calls = made.1 ++ before.calls } = made.3
    ∙ ap (λ (t : Told). let u : Told = record t { calls = made.1 ++ t.calls } in u) (sym was) in
    subst (λ (t : Told). FitFrom k t.start since t trace) (sym is)
    (each_on k before.start since before made.1 trace all)

-- the same calls, as another count has them
recounted_side : (copy start calls count : ℕ) (side : Side) (t : Told)
    → HasSide copy start calls side (record t { start = count }) → HasSide copy start calls side t
recounted_side copy start calls count side t is =
    record { high = is.high; pages = is.pages; side_is = is.side_is; reads = is.reads }

recounted_event : (k : Known) (own start since calls count : ℕ) (t : Told) (event : Event)
    → FitsThen k own start since calls (record t { start = count }) event
    → FitsThen k own start since calls t event
recounted_event k own start since calls count t (events.Flush page) is =
    record { high = is.high; since = is.since; bytes = is.bytes; rest = is.rest; last = is.last }
recounted_event k own start since calls count t events.FlushDevice is =
    record { high = is.high; since = is.since; failed = is.failed }
recounted_event k own start since calls count t (events.Said stmt Device) is =
    record { high = is.high; since = is.since; failed = is.failed }
recounted_event k own start since calls count t (events.Stop reasons.Device) is =
    record { high = is.high; since = is.since; failed = is.failed }
recounted_event k own start since calls count t (events.Layout copy side) is = (
  is.0,
  clean_more (HasSide k.copy start calls side (record t { start = count }))
      (HasSide k.copy start calls side t) k.clean (recounted_side k.copy start calls count side t)
      is.1,
)
recounted_event k own start since calls count t (events.Switched to sides) is = (
  recounted_side to start since count sides.new t is.0,
  recounted_side to start calls count sides.new t is.1,
)
recounted_event k own start since calls count t (events.Written pages) is =
    record { high = is.high; pages = is.pages; count_is = is.count_is; reads = is.reads }
recounted_event k own start since calls count t event is = is

pub recounted : (k : Known) (start since count : ℕ) (t : Told) (trace : List Entry)
    → FitFrom k start since (record t { start = count }) trace → FitFrom k start since t trace
recounted k start since count t [] all = tt
recounted k start since count t (e ∷ es) all = (
  recounted_event k (writes_of k e.actor) start since e.calls count t e.event all.0,
  recounted (known_after k e) start e.calls count t es all.1,
)

-- ---- a flush

wrote_then : (Kind : Call → Type 0) (copy page since calls : ℕ) (x : Content) (a b : Option Told)
    → EachCall a b Kind → IfTold a (λ t. length t.calls ≡ t.start + since)
    → IfTold b (λ t. length t.calls ≡ t.start + calls) → IfTold b (WrotePage a (set_of copy) page x)
    → IfTold b (λ t. WroteThen copy t.start since calls page t)
wrote_then Kind copy page since calls x a None made was now wrote = tt
wrote_then Kind copy page since calls x None (Some t) made was now wrote = absurd (cc (made.2))
wrote_then Kind copy page since calls x (Some o) (Some t) made was now wrote =
    let is : o ≡ made.0 = cc (made.2) in
    let start : t.start ≡ o.start =
    ap (λ (u : Told). u.start) made.3 ∙ ap (λ (u : Told). u.start) (sym is) in
    let longer = ap (λ (cs : List Call). length cs) wrote.last in
    let low = wrote.since in
    let all : length t.calls - (t.start + calls) ≡ 0 = omega (arith, now) in
    record {
      high = omega (arith, now);
      since = omega (arith, start, was, now, longer, low);
      bytes = page_bytes x;
      rest = wrote.before;
      last = ap (λ (n : ℕ). drop n t.calls) all ∙ wrote.last;
    }

-- ---- a call that failed

-- the faults have risen, and so have the calls that failed
rose_told : (old new : VolumeSeen) (since : ℕ) (o t : Told) (fresh : List Call)
    → t ≡ record o { calls = fresh ++ o.calls } → length o.calls ≡ o.start + since
    → CountsFailed old.faults o → CountsFailed new.faults t → Rose old.faults new.faults
    → FailedSince t.start since t
rose_told old new since o t fresh whole was law later rose = λ few.
    let start : t.start ≡ o.start = ap (λ (u : Told). u.start) whole in
    let longer : length t.calls ≡ length fresh + length o.calls =
    ap (λ (u : Told). length u.calls) whole ∙ length-append fresh o.calls in
    let before : faults_at t (t.start + since) ≡ faults_of o.calls =
    ap (λ (u : Told). faults_at u (t.start + since)) whole
    ∙ ap faults_of (calls_then o fresh (t.start + since) (omega (arith, start, was)))
    ∙ ap (λ (n : ℕ). faults_of (drop n o.calls))
    (none (length o.calls) (t.start + since) (omega (arith, start, was))) in
    let most = count_by-le-length is_failed t.calls in
    let a : old.faults ≡ faults_of o.calls = law (omega (arith, few, longer)) in
    let b : new.faults ≡ faults_of t.calls = later few in
    let c : old.faults < new.faults = rose (omega (arith, b, most, few)) in
    omega (arith, before, a, b, c)
  where
    none : (n k : ℕ) → n ≡ k → n - k ≡ 0
    none n k e = omega (arith, e)

pub failed_then : (Kind : Call → Type 0) (old new : VolumeSeen) (since calls : ℕ)
    → EachCall old.told new.told Kind → IsCount old since → IsCount new calls
    → IfTold old.told (CountsFailed old.faults) → IfTold new.told (CountsFailed new.faults)
    → Rose old.faults new.faults
    → IfTold new.told (λ t. FailedThen t.start since calls t)
failed_then Kind old new since calls made was now law later rose =
    go old.told new.told made was now law later
  where
    go : (a b : Option Told) → EachCall a b Kind → IfTold a (λ t. length t.calls ≡ t.start + since)
        → IfTold b (λ t. length t.calls ≡ t.start + calls) → IfTold a (CountsFailed old.faults)
        → IfTold b (CountsFailed new.faults) → IfTold b (λ t. FailedThen t.start since calls t)
    go a None made was now law later = tt
    go None (Some t) made was now law later = absurd (cc (made.2))
    go (Some o) (Some t) made was now law later =
        let is : o ≡ made.0 = cc (made.2) in
        let whole : t ≡ record o { calls = made.1 ++ o.calls } = made.3
        ∙ ap (λ (u : Told). let w : Told = record u { calls = made.1 ++ u.calls } in w) (sym is) in
        let start : t.start ≡ o.start = ap (λ (u : Told). u.start) whole in
        let longer : length t.calls ≡ length made.1 + length o.calls =
        ap (λ (u : Told). length u.calls) whole ∙ length-append made.1 o.calls in
        let all : length t.calls - (t.start + calls) ≡ 0 = omega (arith, now) in
        let here : faults_at t (t.start + calls) ≡ faults_of t.calls =
        ap (λ (n : ℕ). faults_of (drop n t.calls)) all in
        record {
          high = omega (arith, now);
          since = omega (arith, start, was, now, longer);
          failed =
              λ few. let risen = rose_told old new since o t made.1 whole was law later rose few in
              omega (arith, here, risen);
        }

-- the same up to now
pub failed_after : (Kind : Call → Type 0) (old new : VolumeSeen) (since : ℕ)
    → EachCall old.told new.told Kind → IsCount old since
    → IfTold old.told (CountsFailed old.faults) → IfTold new.told (CountsFailed new.faults)
    → Rose old.faults new.faults → IfTold new.told (λ t. FailedSince t.start since t)
failed_after Kind old new since made was law later rose = go old.told new.told made was law later
  where
    go : (a b : Option Told) → EachCall a b Kind → IfTold a (λ t. length t.calls ≡ t.start + since)
        → IfTold a (CountsFailed old.faults) → IfTold b (CountsFailed new.faults)
        → IfTold b (λ t. FailedSince t.start since t)
    go a None made was law later = tt
    go None (Some t) made was law later = absurd (cc (made.2))
    go (Some o) (Some t) made was law later =
        let is : o ≡ made.0 = cc (made.2) in
        rose_told old new since o t made.1
        (made.3
        ∙ ap (λ (u : Told). let w : Told = record u { calls = made.1 ++ u.calls } in w) (sym is))
        was law later rose

-- the calls up to the last entry are those up to the last of the last part
pub calls_of_part : (calls : ℕ) (lines : List Line) (older part : List Entry) → TraceOf lines part
    → calls_of_last calls (older ++ part) ≡ calls_of_last 0 part
calls_of_part calls lines [] [] of = absurd of
calls_of_part calls lines [] (e ∷ es) of = refl
calls_of_part calls lines (o ∷ older) part of = calls_of_part o.calls lines older part of

-- what its event tells, by what it did
pub flush_then : (Kind : Call → Type 0) (down : Bool) (k : Known) (own : ℕ)
    (contents : List Content)
    (marks later : List (Option Position)) (old new : VolumeSeen) (since calls : ℕ) (event : Event)
    → EachCall old.told new.told Kind → IsCount old since → IsCount new calls
    → (Rose old.faults new.faults → IfTold new.told (λ t. FailedThen t.start since calls t))
    → FlushIs down k.copy contents marks later old new event
    → IfTold new.told (λ t. FitsThen k own t.start since calls t event)
flush_then Kind true k own contents marks later old new since calls event made was now failed is =
    told_weaken (λ t. calls ≡ since) (λ t. FitsThen k own t.start since calls t event) new.told
    (λ t same. subst (FitsThen k own t.start since calls t) (sym is.0) same)
    (no_call old new since calls was now is.1)
flush_then Kind false k own contents marks later old new since calls (events.Flush page) made was
    now
    failed is = wrote_then Kind k.copy page since calls (content_at contents page) old.told new.told
    made was now is.2
flush_then Kind false k own contents marks later old new since calls events.Clean made was now
    failed
    is = no_call old new since calls was now is.1
flush_then Kind false k own contents marks later old new since calls events.FlushDevice made was now
    failed is = failed is.0
flush_then Kind false k own contents marks later old new since calls events.FlushNoMemory made was
    now failed is = no_call old new since calls was now is.0
flush_then Kind false k own contents marks later old new since calls event made was now failed is =
    absurd is
