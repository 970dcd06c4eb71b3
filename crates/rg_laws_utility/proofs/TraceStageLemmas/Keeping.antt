-- What an entry keeps of the utility and of the drain.
use Rattle.std.proofs.Common.{◌≡◌, ℕ, Bool, true, false, cond, if◌then◌else◌, List, [], ◌∷◌, ◌++◌}
use Rattle.std.proofs.Common.{Option, Some, None, refl, sym, ◌∙◌, ap, subst, arith}
use Rattle.rg_base.specs.declared.control.Answer.{Answer}
use Rattle.rg_base.specs.declared.options.DrainFor.{DrainFor}
use Rattle.rg_base.specs.declared.options.DrainState.{DrainState}
use Rattle.rg_base.specs.declared.session.Session.{Session}
use Rattle.rg_base.specs.declared.step.Step.{Step}
use Rattle.rg_base.specs.declared.step.Step.TheVariants as steps
use Rattle.rg_base.specs.declared.verdict.DrainVerdict.{DrainVerdict}
use Rattle.rg_base.specs.declared.verdict.DrainVerdict.TheVariants as waits
use Rattle.rg_model.specs.Changes.{changes_after, unit_writes_after}
use Rattle.rg_model.specs.Claims.{claim_classes, classes_needed}
use Rattle.rg_model.specs.Plain.{after, after_answer, after_rollback, is_done, plain_reply}
use Rattle.rg_model.specs.Possible.{next_state, state_after_step}
use Rattle.rg_model.specs.Run.{Allows, Run, Says}
use Rattle.rg_model.specs.Said.{has_locks, state_failed, state_refused}
use Rattle.rg_model.specs.State.{State, Utility}
use Rattle.rg_model.specs.Turn.{Turn, alter, is_term, step_of, turn_at, turn_of, wait_turn}
use Rattle.rg_model.specs.Verdict.{drain_verdict}
use Rattle.rg_rules.proofs.StageLemmas.Steps.{has_step, is_step}
use Rattle.rg_stmt.specs.declared.event.Actor.TheVariants as actors
use Rattle.rg_stmt.specs.declared.event.Entry.{Entry}
use Rattle.rg_stmt.specs.declared.event.Event.{Event}
use Rattle.rg_stmt.specs.declared.event.Event.TheVariants as events
use Rattle.rg_stmt.specs.declared.stmt.Reply.{Reply}
use Rattle.rg_stmt.specs.declared.stmt.Reply.TheVariants as replies
use Rattle.rg_stmt.specs.declared.stmt.Stmt.{Stmt}
use Rattle.rg_stmt.specs.declared.stmt.Stmt.TheVariants.{Insert, Update, Delete, Select, Scan, Find}
use Rattle.rg_stmt.specs.declared.stmt.Stmt.TheVariants.{Commit, Rollback}
use Rattle.rg_laws_utility.specs.TraceStage.Tending.{IsRefusedEvent, IsSystem}
use Rattle.rg_model.specs.Run.{behind}
use Rattle.rg_model.proofs.Allowed.{allowed_is, some_is}

-- ---- the last entry

pub run_pop : (past : List Entry) (old new : State) (entries : List Entry) (entry : Entry)
    → Run past old (entries ++ entry ∷ []) new
    → (mid : State) × Run past old entries mid
    × Allows (behind past entries) entry.answer entry.actor entry.event mid new
run_pop past old new [] entry run = (
  old,
  refl,
  subst (λ (st : State). Allows past entry.answer entry.actor entry.event old st) (sym run.2) run.1,
)
run_pop past old new (e ∷ es) entry run =
    let rest = run_pop (e ∷ past) run.0 new es entry run.2 in
    (rest.0, (run.0, run.1, rest.1), rest.2)

pub behind_push : (past entries : List Entry) (entry : Entry)
    → behind past (entries ++ entry ∷ []) ≡ entry ∷ behind past entries
behind_push past [] entry = refl
behind_push past (e ∷ es) entry = behind_push (e ∷ past) es entry

-- ---- a statement

-- the utility and the drain are as before
abbrev pub Keeps : State → State → Type 0
Keeps old new = (new.utility ≡ old.utility) × (new.drain ≡ old.drain)

pub same_keeps : (old new : State) → new ≡ old → Keeps old new
same_keeps old new e = (ap (λ (st : State). st.utility) e, ap (λ (st : State). st.drain) e)

answer_keeps : (st : State) (session : Session) (stmt : Stmt) (reply : Reply)
    → Keeps st (after_answer st session stmt reply)
answer_keeps st session stmt reply = by_done stmt (is_done reply)
  where
    by_done : (stmt : Stmt) (b : Bool)
        → Keeps st (cond b (claim_classes (after st session stmt) session (classes_needed stmt)) st)
    by_done stmt false = (refl, refl)
    by_done (Insert row) true = (refl, refl)
    by_done (Update row) true = (refl, refl)
    by_done (Delete key) true = (refl, refl)
    by_done (Select key) true = (refl, refl)
    by_done (Scan lo hi) true = (refl, refl)
    by_done (Find cat) true = (refl, refl)
    by_done Commit true = (refl, refl)
    by_done Rollback true = (refl, refl)

down_keeps : (old down new : State) → Keeps old down → new ≡ down → Keeps old new
down_keeps old down new keeps e =
    (ap (λ (st : State). st.utility) e ∙ keeps.0, ap (λ (st : State). st.drain) e ∙ keeps.1)

failed_keeps : (st new : State) (session : Session) (stmt : Stmt)
    → state_failed st session stmt ≡ Some new → Keeps st new
failed_keeps st new session Commit e =
    down_keeps st (record st { down = true; doubt = Some session }) new (refl, refl)
    (allowed_is (has_locks st.locks session) (record st { down = true; doubt = Some session }) new
    e)
failed_keeps st new session Rollback e = down_keeps st (record st { down = true }) new (refl, refl)
    (some_is (record st { down = true }) new e)
failed_keeps st new session stmt e = same_keeps st new (some_is st new e)

refused_keeps : (st new : State) (session : Session) (stmt : Stmt) (plain : Reply)
    → state_refused st session stmt plain ≡ Some new → Keeps st new
refused_keeps st new session stmt (replies.Held owner) e = down_keeps st (record st { down = true })
    new (refl, refl) (some_is (record st { down = true }) new e)
refused_keeps st new session stmt plain e = by_done (is_done plain) e
  where
    by_done : (b : Bool) → cond b (state_failed st session stmt) None ≡ Some new → Keeps st new
    by_done true e = failed_keeps st new session stmt e
    by_done false e = absurd (cc (e))

-- a statement leaves them, whatever it is answered
pub said_keeps : (st new : State) (session : Session) (stmt : Stmt) (reply : Reply)
    → Says st session stmt reply new → Keeps st new
said_keeps st new session stmt replies.Down says = same_keeps st new says.1
said_keeps st new session stmt replies.Drained says = same_keeps st new says.2
said_keeps st new session stmt replies.NoMemory says = same_keeps st new says.2.1
said_keeps st new session stmt (replies.Victim owner) says =
    down_keeps st (after_rollback st session) new (refl, refl) says.2.1
said_keeps st new session stmt (replies.Full need) says = same_keeps st new says.2.2
said_keeps st new session stmt (replies.LogFull need left) says = same_keeps st new says.2.2
said_keeps st new session stmt replies.Device says =
    refused_keeps st new session stmt (plain_reply st session stmt) says.2
said_keeps st new session stmt reply says = down_keeps st (after_answer st session stmt reply) new
    (answer_keeps st session stmt reply) says.2.1

-- ---- events of the system

pub system_keeps : (past : List Entry) (answer : Option Answer) (event : Event) (st new : State)
    → IsSystem event → Allows past answer actors.System event st new → Keeps st new
system_keeps past answer (events.Layout shown side) st new is allows =
    same_keeps st new (allowed_is _ st new allows)
system_keeps past answer events.LayoutNoMemory st new is allows =
    same_keeps st new (allowed_is _ st new allows)
system_keeps past answer events.LayoutDown st new is allows =
    same_keeps st new (allowed_is _ st new allows)
system_keeps past answer (events.Flush page) st new is allows =
    same_keeps st new (allowed_is _ st new allows)
system_keeps past answer events.Clean st new is allows =
    same_keeps st new (allowed_is _ st new allows)
system_keeps past answer events.FlushDevice st new is allows =
    same_keeps st new (allowed_is _ st new allows)
system_keeps past answer events.FlushDown st new is allows =
    same_keeps st new (allowed_is _ st new allows)
system_keeps past answer events.FlushNoMemory st new is allows =
    same_keeps st new (allowed_is _ st new allows)
system_keeps past answer event st new is allows = absurd is

-- it is no change, and no session's write
pub system_changes : (event : Event) (past : List Entry) (before : ℕ) → IsSystem event
    → changes_after actors.System event past before ≡ before
system_changes (events.Layout shown side) past before is = omega arith
system_changes events.LayoutNoMemory past before is = omega arith
system_changes events.LayoutDown past before is = omega arith
system_changes (events.Flush page) past before is = omega arith
system_changes events.Clean past before is = omega arith
system_changes events.FlushDevice past before is = omega arith
system_changes events.FlushDown past before is = omega arith
system_changes events.FlushNoMemory past before is = omega arith
system_changes event past before is = absurd is

pub system_writes : (session : ℕ) (event : Event) (before : ℕ) → IsSystem event
    → unit_writes_after session actors.System event before ≡ before
system_writes session (events.Layout shown side) before is = refl
system_writes session events.LayoutNoMemory before is = refl
system_writes session events.LayoutDown before is = refl
system_writes session (events.Flush page) before is = refl
system_writes session events.Clean before is = refl
system_writes session events.FlushDevice before is = refl
system_writes session events.FlushDown before is = refl
system_writes session events.FlushNoMemory before is = refl
system_writes session event before is = absurd is

-- ---- events of the utility that change nothing

pub refused_is : (past : List Entry) (event : Event) (st new : State) → IsRefusedEvent event
    → Allows past None actors.Utility event st new → new ≡ st
refused_is past events.Active st new is allows = allowed_is _ st new allows
refused_is past (events.StartLogFull need left) st new is allows = allowed_is _ st new allows
refused_is past events.StartDown st new is allows = allowed_is _ st new allows
refused_is past events.StartNoMemory st new is allows = allowed_is _ st new allows
refused_is past events.Idle st new is allows = allowed_is _ st new allows
refused_is past events.StepDown st new is allows = allowed_is _ st new allows
refused_is past event st new is allows = absurd is

-- ---- the counts

-- only a start begins the count of changes anew
abbrev is_start : Event → Bool
is_start (events.Started options copy pages) = true
is_start event = false

abbrev is_opening : Event → Bool
is_opening (events.Opened copy rows pages used) = true
is_opening event = false

pub utility_changes : (event : Event) (past : List Entry) (before : ℕ) → is_start event ≡ false
    → changes_after actors.Utility event past before ≡ before
utility_changes (events.Started options copy pages) past before other = absurd (cc (other))
utility_changes event past before other = omega arith

pub utility_writes : (session : ℕ) (event : Event) (before : ℕ) → is_opening event ≡ false
    → unit_writes_after session actors.Utility event before ≡ before
utility_writes session (events.Opened copy rows pages used) before other = absurd (cc (other))
utility_writes session event before other = refl

pub refused_plain : (event : Event) → IsRefusedEvent event
    → (is_start event ≡ false) × (is_opening event ≡ false)
refused_plain events.Active is = (refl, refl)
refused_plain (events.StartLogFull need left) is = (refl, refl)
refused_plain events.StartDown is = (refl, refl)
refused_plain events.StartNoMemory is = (refl, refl)
refused_plain events.Idle is = (refl, refl)
refused_plain events.StepDown is = (refl, refl)
refused_plain event is = absurd is

-- ---- a step

-- an opening has no turn
opening_waits : (all : ℕ) (answer : Answer) (u : Utility) (d : DrainState) (asked : DrainFor)
    (verdict : DrainVerdict) (copy rows pages used : ℕ)
    → wait_turn all answer u d asked verdict (events.Opened copy rows pages used) ≡ None
opening_waits all answer u d asked (waits.Wait session) copy rows pages used = refl
opening_waits all answer u d asked waits.Granted copy rows pages used = refl
opening_waits all answer u d asked waits.GiveUp copy rows pages used = refl
opening_waits all answer u d asked (waits.Stop reason) copy rows pages used = refl

opening_steps : (step : Step) (all : ℕ) (blocker : Option Session) (answer : Answer) (u : Utility)
    (d : DrainState) (copy rows pages used : ℕ)
    → turn_at step all blocker answer u d (events.Opened copy rows pages used) ≡ None
opening_steps (steps.Wait asked) all blocker answer u d copy rows pages used = opening_waits all
    answer u d asked (drain_verdict u.options u.asked u.failed blocker answer.now answer.estimate)
    copy rows pages used
opening_steps step all blocker answer u d copy rows pages used = refl

opening_none : (all : ℕ) (blocker : Option Session) (answer : Answer) (u : Utility) (d : DrainState)
    (copy rows pages used : ℕ)
    → turn_of all blocker answer u d (events.Opened copy rows pages used) ≡ None
opening_none all blocker answer u d copy rows pages used =
    by_tests u.switched (is_term answer.command)
  where
    by_tests : (s t : Bool)
        → (if s then None else (if t then None else turn_at (step_of (alter u answer.command) d) all
        blocker answer (alter u answer.command) d (events.Opened copy rows pages used))) ≡ None
    by_tests true t = refl
    by_tests false true = refl
    by_tests false false = opening_steps (step_of (alter u answer.command) d) all blocker answer
        (alter u answer.command) d copy rows pages used

step_no_start : (event : Event) → is_step event ≡ true → is_start event ≡ false
step_no_start (events.Started options copy pages) is = absurd (cc (is))
step_no_start event is = refl

turn_no_opening : (all : ℕ) (blocker : Option Session) (answer : Answer) (u : Utility)
    (d : DrainState) (event : Event) (turn : Turn)
    → turn_of all blocker answer u d event ≡ Some turn → is_opening event ≡ false
turn_no_opening all blocker answer u d (events.Opened copy rows pages used) turn e =
    absurd (cc (e, opening_none all blocker answer u d copy rows pages used))
turn_no_opening all blocker answer u d event turn e = refl

-- an event that has a turn neither begins the count of changes anew nor ends units
pub turn_plain : (all : ℕ) (blocker : Option Session) (answer : Answer) (u : Utility)
    (d : DrainState) (event : Event) (turn : Turn)
    → turn_of all blocker answer u d event ≡ Some turn
    → (is_start event ≡ false) × (is_opening event ≡ false)
turn_plain all blocker answer u d event turn e = (
  step_no_start event (has_step all blocker answer u d event turn e),
  turn_no_opening all blocker answer u d event turn e,
)

pub step_next : (past : List Entry) (answer : Option Answer) (event : Event) (st : State)
    → is_step event ≡ true
    → next_state past answer actors.Utility event st
    ≡ state_after_step past answer event st st.utility
step_next past answer (events.Started options copy pages) st is = absurd (cc (is))
step_next past answer events.Active st is = absurd (cc (is))
step_next past answer (events.StartLogFull need left) st is = absurd (cc (is))
step_next past answer events.StartDown st is = absurd (cc (is))
step_next past answer events.StartNoMemory st is = absurd (cc (is))
step_next past answer events.Idle st is = absurd (cc (is))
step_next past answer events.StepDown st is = absurd (cc (is))
step_next past answer event st is = refl
