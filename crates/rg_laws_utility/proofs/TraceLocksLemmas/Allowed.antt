-- What an entry that is allowed leaves of the locks, and which entries leave the claims too.
use Rattle.std.proofs.Common.{◌≡◌, ◌==◌, ℕ, Bool, true, false, not, List, Option, Some, None, refl}
use Rattle.std.proofs.Common.{sym, ◌∙◌, ap, if◌then◌else◌, inl, inr, ◌⊎◌}
use Rattle.std.specs.FinMap as map
use Rattle.std.proofs.lemmas.Bool.{eqb-true}
use Rattle.rg_base.specs.declared.control.Answer.{Answer}
use Rattle.rg_base.specs.declared.lock.Lock.{Lock}
use Rattle.rg_base.specs.declared.options.DrainFor.{DrainFor}
use Rattle.rg_base.specs.declared.options.DrainState.{DrainState}
use Rattle.rg_base.specs.declared.session.Session.{Session}
use Rattle.rg_base.specs.declared.step.Step.{Step}
use Rattle.rg_base.specs.declared.step.Step.TheVariants as steps
use Rattle.rg_base.specs.declared.verdict.DrainVerdict.{DrainVerdict}
use Rattle.rg_base.specs.declared.verdict.DrainVerdict.TheVariants as waits
use Rattle.rg_base.proofs.Small.{not_both}
use Rattle.rg_stmt.specs.declared.event.Actor.TheVariants as actors
use Rattle.rg_stmt.specs.declared.event.Entry.{Entry}
use Rattle.rg_stmt.specs.declared.event.Event.{Event}
use Rattle.rg_stmt.specs.declared.event.Event.TheVariants as events
use Rattle.rg_stmt.specs.declared.stmt.Reply.{Reply}
use Rattle.rg_stmt.specs.declared.stmt.Reply.TheVariants.{Done, Found, Listed, Keyed, Absent}
use Rattle.rg_stmt.specs.declared.stmt.Reply.TheVariants.{Duplicate, Held, Victim, Drained, Full}
use Rattle.rg_stmt.specs.declared.stmt.Reply.TheVariants.{LogFull, Device, Down, NoMemory}
use Rattle.rg_stmt.specs.declared.stmt.Stmt.{Stmt}
use Rattle.rg_stmt.specs.declared.stmt.Stmt.TheVariants.{Insert, Update, Delete, Select, Scan, Find}
use Rattle.rg_stmt.specs.declared.stmt.Stmt.TheVariants.{Commit, Rollback}
use Rattle.rg_model.specs.Changes.{changes, is_write, is_unit_end}
use Rattle.rg_model.specs.Claims.{least_holder}
use Rattle.rg_model.specs.Committed.{locks_without}
use Rattle.rg_model.specs.Held.{holder, other_owner}
use Rattle.rg_model.specs.Plain.{after, after_answer, change_reply, insert_reply, is_done, lock_key}
use Rattle.rg_model.specs.Plain.{plain_reply, unless_held}
use Rattle.rg_model.specs.Possible.{next_state, state_after_step}
use Rattle.rg_model.specs.Quiet.{names_key}
use Rattle.rg_model.specs.Run.{Says}
use Rattle.rg_model.specs.Said.{has_locks, state_failed, state_refused}
use Rattle.rg_model.specs.State.{State, Utility}
use Rattle.rg_model.specs.Turn.{Turn, Falls, Runs, Stops, Switches, alter, is_term, step_of}
use Rattle.rg_model.specs.Turn.{turn_at, turn_of, wait_turn}
use Rattle.rg_model.specs.Utility.{state_by_turn, state_stepped}
use Rattle.rg_model.proofs.Allowed.{allowed_is, some_is}

-- the locks and the claims are the same
pub record SameHeld (st new : State) : Type 0 where
  pub locks : new.locks ≡ st.locks
  pub claims : new.claims ≡ st.claims

-- the new state is one that has the old locks and claims
held_by : (st new is : State) → new ≡ is → is.locks ≡ st.locks → is.claims ≡ st.claims
    → SameHeld st new
held_by st new is e locks claims = record {
  locks = ap (λ (s : State). s.locks) e ∙ locks;
  claims = ap (λ (s : State). s.claims) e ∙ claims;
}

-- the utility and the system

module _ (past : List Entry) (st new : State) where
  turned_held : (u : Utility) (turn : Option Turn) → state_by_turn past st u turn ≡ Some new
      → SameHeld st new
  turned_held u None e = absurd (cc (e))
  turned_held u (Some (Runs v drain)) e = held_by st new _ (some_is _ new e) refl refl
  turned_held u (Some (Switches copy sides v)) e = held_by st new _ (allowed_is _ _ new e) refl refl
  turned_held u (Some Stops) e = held_by st new _ (some_is _ new e) refl refl
  turned_held u (Some Falls) e = held_by st new _ (some_is _ new e) refl refl

  stepped_held : (answer : Option Answer) (event : Event) (u : Utility)
      → state_stepped past answer event st u ≡ Some new → SameHeld st new
  stepped_held None event u e = absurd (cc (e))
  stepped_held (Some answer) event u e = turned_held u
      (turn_of (changes past) (least_holder st.drain st.claims) answer u st.drain event) e

  after_step_held : (answer : Option Answer) (event : Event) (o : Option Utility)
      → state_after_step past answer event st o ≡ Some new → SameHeld st new
  after_step_held answer event None e = absurd (cc (e))
  after_step_held answer event (Some u) e = go st.down e
    where
      go : (b : Bool) → (if b then None else state_stepped past answer event st u) ≡ Some new
          → SameHeld st new
      go true e = absurd (cc (e))
      go false e = stepped_held answer event u e

  -- an event of the utility leaves the locks and the claims
  pub utility_held : (answer : Option Answer) (event : Event)
      → next_state past answer actors.Utility event st ≡ Some new → SameHeld st new
  utility_held answer (events.Started options copy pages) e =
      held_by st new _ (allowed_is _ _ new e) refl refl
  utility_held answer events.Active e = held_by st new _ (allowed_is _ _ new e) refl refl
  utility_held answer (events.StartLogFull need left) e =
      held_by st new _ (allowed_is _ _ new e) refl refl
  utility_held answer events.StartDown e = held_by st new _ (allowed_is _ _ new e) refl refl
  utility_held answer events.StartNoMemory e = held_by st new _ (allowed_is _ _ new e) refl refl
  utility_held answer events.Idle e = held_by st new _ (allowed_is _ _ new e) refl refl
  utility_held answer events.StepDown e = held_by st new _ (allowed_is _ _ new e) refl refl
  utility_held answer event e = after_step_held answer event st.utility e

  -- and so does one of the system, but for an opening
  pub system_held : (answer : Option Answer) (event : Event)
      → next_state past answer actors.System event st ≡ Some new → SameHeld st new
  system_held answer (events.Flush page) e = held_by st new _ (allowed_is _ _ new e) refl refl
  system_held answer events.Clean e = held_by st new _ (allowed_is _ _ new e) refl refl
  system_held answer events.FlushDevice e = held_by st new _ (allowed_is _ _ new e) refl refl
  system_held answer events.FlushDown e = held_by st new _ (allowed_is _ _ new e) refl refl
  system_held answer events.FlushNoMemory e = held_by st new _ (allowed_is _ _ new e) refl refl
  system_held answer (events.Layout copy side) e = held_by st new _ (allowed_is _ _ new e) refl refl
  system_held answer events.LayoutDevice e = held_by st new _ (allowed_is _ _ new e) refl refl
  system_held answer events.LayoutDown e = held_by st new _ (allowed_is _ _ new e) refl refl
  system_held answer events.LayoutNoMemory e = held_by st new _ (allowed_is _ _ new e) refl refl
  system_held answer event e = absurd (cc (e))

-- no step of a utility is an opening

module _ (copy rows pages used : ℕ) where
  abbrev opened : Event
  opened = events.Opened copy rows pages used

  no_wait : (all : ℕ) (answer : Answer) (u : Utility) (drain : DrainState) (asked : DrainFor)
      (verdict : DrainVerdict) → wait_turn all answer u drain asked verdict opened ≡ None
  no_wait all answer u drain asked (waits.Wait session) = refl
  no_wait all answer u drain asked waits.Granted = refl
  no_wait all answer u drain asked waits.GiveUp = refl
  no_wait all answer u drain asked (waits.Stop reason) = refl

  no_turn_at : (step : Step) (all : ℕ) (blocker : Option Session) (answer : Answer) (u : Utility)
      (drain : DrainState) → turn_at step all blocker answer u drain opened ≡ None
  no_turn_at steps.Unload all blocker answer u drain = refl
  no_turn_at steps.Reload all blocker answer u drain = refl
  no_turn_at steps.Sort all blocker answer u drain = refl
  no_turn_at steps.Build all blocker answer u drain = refl
  no_turn_at steps.Log all blocker answer u drain = refl
  no_turn_at (steps.Wait asked) all blocker answer u drain = no_wait all answer u drain asked _
  no_turn_at steps.Last all blocker answer u drain = refl
  no_turn_at (steps.Write granted) all blocker answer u drain = refl
  no_turn_at steps.Switch all blocker answer u drain = refl
  no_turn_at steps.End all blocker answer u drain = refl

  no_turn :
      (all : ℕ) (blocker : Option Session) (answer : Answer) (u : Utility) (drain : DrainState)
      → turn_of all blocker answer u drain opened ≡ None
  no_turn all blocker answer u drain = go u.switched (is_term answer.command) _
      (no_turn_at (step_of (alter u answer.command) drain) all blocker answer
      (alter u answer.command) drain)
    where
      go : (a b : Bool) (turn : Option Turn) → turn ≡ None
          → (if a then None else (if b then None else turn)) ≡ None
      go true b turn e = refl
      go false true turn e = refl
      go false false turn e = e

  module _ (past : List Entry) (st new : State) where
    no_step : (answer : Option Answer) (u : Utility) → state_stepped past answer opened st u ≡ None
    no_step None u = refl
    no_step (Some answer) u = ap (λ turn. state_by_turn past st u turn)
        (no_turn (changes past) (least_holder st.drain st.claims) answer u st.drain)

    no_after_step : (answer : Option Answer) (o : Option Utility)
        → state_after_step past answer opened st o ≡ None
    no_after_step answer None = refl
    no_after_step answer (Some u) = go st.down
      where
        go : (b : Bool) → (if b then None else state_stepped past answer opened st u) ≡ None
        go true = refl
        go false = no_step answer u

    pub utility_opens_not : (answer : Option Answer)
        → next_state past answer actors.Utility opened st ≡ Some new → ⊥
    utility_opens_not answer e = none (sym (no_after_step answer st.utility) ∙ e)
      where
        none : None ≡ Some new → ⊥
        none e = absurd (cc (e))

-- statements

-- the unit is over, and its locks are gone
pub record Ended (st new : State) (session : Session) (stmt : Stmt) (reply : Reply) : Type 0 where
  pub end : is_unit_end stmt reply ≡ true
  pub locks : new.locks ≡ locks_without session st.locks

-- nothing was written, and the locks are the same
pub record Stayed (st new : State) (stmt : Stmt) (reply : Reply) : Type 0 where
  pub end : is_unit_end stmt reply ≡ false
  pub write : is_write stmt reply ≡ false
  pub locks : new.locks ≡ st.locks

-- a key was written, which no other session had locked
pub record Wrote (st new : State) (session : Session) (stmt : Stmt) (reply : Reply) : Type 0 where
  pub key : ℕ
  pub end : is_unit_end stmt reply ≡ false
  pub write : is_write stmt reply ≡ true
  pub names : (k : ℕ) → names_key k stmt ≡ (key == k)
  pub locks : new.locks ≡ lock_key st session key
  pub own : (kept : Lock) → map.get st.locks key ≡ Some kept → kept.owner.0 ≡ session.0

abbrev pub Moved : State → State → Session → Stmt → Reply → Type 0
Moved st new session stmt reply =
    Ended st new session stmt reply ⊎ (Stayed st new stmt reply ⊎ Wrote st new session stmt reply)

-- a reply that ends no unit and writes nothing, whatever the statement
abbrev is_idle : Reply → Bool
is_idle Done = false
is_idle (Victim owner) = false
is_idle reply = true

idle_ends : (stmt : Stmt) (reply : Reply) → is_idle reply ≡ true → is_unit_end stmt reply ≡ false
idle_ends stmt Done e = absurd (cc (e))
idle_ends stmt (Victim owner) e = absurd (cc (e))
idle_ends Commit reply e = refl
idle_ends Rollback reply e = refl
idle_ends stmt reply e = refl

idle_writes : (stmt : Stmt) (reply : Reply) → is_idle reply ≡ true → is_write stmt reply ≡ false
idle_writes stmt Done e = absurd (cc (e))
idle_writes stmt reply e = refl

-- the unit of a victim is over
pub victim_ends : (stmt : Stmt) (owner : Session) → is_unit_end stmt (Victim owner) ≡ true
victim_ends Commit owner = refl
victim_ends Rollback owner = refl
victim_ends stmt owner = refl

module _ (st new : State) (session : Session) (stmt : Stmt) where
  idle : (reply : Reply) → is_idle reply ≡ true → new.locks ≡ st.locks
      → Moved st new session stmt reply
  idle reply e locks = inr
      (inl
      (record { end = idle_ends stmt reply e; write = idle_writes stmt reply e; locks = locks }))

  same : new ≡ st → new.locks ≡ st.locks
  same e = ap (λ (s : State). s.locks) e

module _ (st new : State) (session : Session) where
  failed_held : (stmt : Stmt) → state_failed st session stmt ≡ Some new → SameHeld st new
  failed_held Commit e =
      held_by st new _ (allowed_is (has_locks st.locks session) _ new e) refl refl
  failed_held Rollback e = held_by st new _ (some_is _ new e) refl refl
  failed_held stmt e = held_by st new _ (some_is _ new e) refl refl

  -- a statement that the device refuses leaves the locks and the claims
  pub refused_held : (stmt : Stmt) (plain : Reply) → state_refused st session stmt plain ≡ Some new
      → SameHeld st new
  refused_held stmt (Held owner) e = held_by st new _ (some_is _ new e) refl refl
  refused_held stmt plain e = go (is_done plain) e
    where
      go : (b : Bool) → (if b then state_failed st session stmt else None) ≡ Some new
          → SameHeld st new
      go true e = failed_held stmt e
      go false e = absurd (cc (e))

abbrev is_lookup : Reply → Bool
is_lookup (Found row) = true
is_lookup (Listed rows) = true
is_lookup (Keyed keys) = true
is_lookup reply = false

no_lookup : (held : Option Session) (reply : Reply) → is_lookup reply ≡ false
    → is_lookup (unless_held held reply) ≡ false
no_lookup None reply e = e
no_lookup (Some owner) reply e = refl

no_insert : (b : Bool) → is_lookup (insert_reply b) ≡ false
no_insert true = refl
no_insert false = refl

no_change : (b : Bool) → is_lookup (change_reply b) ≡ false
no_change true = refl
no_change false = refl

module _ (st : State) (session : Session) where
  -- a statement that looks up leaves the locks
  looked : (stmt : Stmt) → is_lookup (plain_reply st session stmt) ≡ true
      → (after st session stmt).locks ≡ st.locks
  looked (Insert row) e = absurd
      (not_both _ e
      (no_lookup (holder st.locks session row.key) _
      (no_insert (map.contains_key st.table row.key))))
  looked (Update row) e = absurd
      (not_both _ e
      (no_lookup (holder st.locks session row.key) _
      (no_change (map.contains_key st.table row.key))))
  looked (Delete key) e = absurd
      (not_both _ e
      (no_lookup (holder st.locks session key) _ (no_change (map.contains_key st.table key))))
  looked (Select key) e = refl
  looked (Scan lo hi) e = refl
  looked (Find cat) e = refl
  looked Commit e = absurd (cc (e))
  looked Rollback e = absurd (cc (e))

  -- a key that is not held is locked by the session alone
  own_of : (key : ℕ) (reply : Reply) → Done ≡ unless_held (holder st.locks session key) reply
      → (kept : Lock) → map.get st.locks key ≡ Some kept → kept.owner.0 ≡ session.0
  own_of key reply e kept found = eqb-true kept.owner.0 session.0
      (go (kept.owner.0 == session.0)
      (e ∙ ap (λ o. unless_held (other_owner session o) reply) found))
    where
      go : (b : Bool) → Done ≡ unless_held (if not b then Some kept.owner else None) reply
          → b ≡ true
      go true e = refl
      go false e = absurd (cc (e))

  module _ (new : State) where
    -- a statement that is answered OK
    done : (stmt : Stmt) → Done ≡ plain_reply st session stmt
        → new ≡ after_answer st session stmt Done → Moved st new session stmt Done
    done (Insert row) e is = inr
        (inr
        (record {
          key = row.key;
          end = refl;
          write = refl;
          names = λ k. refl;
          locks = ap (λ (s : State). s.locks) is;
          own = own_of row.key _ e;
        }))
    done (Update row) e is = inr
        (inr
        (record {
          key = row.key;
          end = refl;
          write = refl;
          names = λ k. refl;
          locks = ap (λ (s : State). s.locks) is;
          own = own_of row.key _ e;
        }))
    done (Delete key) e is = inr
        (inr
        (record {
          key = key;
          end = refl;
          write = refl;
          names = λ k. refl;
          locks = ap (λ (s : State). s.locks) is;
          own = own_of key _ e;
        }))
    done (Select key) e is =
        inr (inl (record { end = refl; write = refl; locks = ap (λ (s : State). s.locks) is }))
    done (Scan lo hi) e is =
        inr (inl (record { end = refl; write = refl; locks = ap (λ (s : State). s.locks) is }))
    done (Find cat) e is =
        inr (inl (record { end = refl; write = refl; locks = ap (λ (s : State). s.locks) is }))
    done Commit e is = inl (record { end = refl; locks = ap (λ (s : State). s.locks) is })
    done Rollback e is = inl (record { end = refl; locks = ap (λ (s : State). s.locks) is })

    -- what a statement leaves of the locks, by its reply
    pub moved : (stmt : Stmt) (reply : Reply) → Says st session stmt reply new
        → Moved st new session stmt reply
    moved stmt Down s = idle st new session stmt Down refl (same st new session stmt s.1)
    moved stmt Drained s = idle st new session stmt Drained refl (same st new session stmt s.2)
    moved stmt NoMemory s = idle st new session stmt NoMemory refl (same st new session stmt s.2.1)
    moved stmt (Victim owner) s =
        inl (record { end = victim_ends stmt owner; locks = ap (λ (s : State). s.locks) s.2.1 })
    moved stmt (Full need) s =
        idle st new session stmt (Full need) refl (same st new session stmt s.2.2)
    moved stmt (LogFull need left) s =
        idle st new session stmt (LogFull need left) refl (same st new session stmt s.2.2)
    moved stmt Device s = idle st new session stmt Device refl
        (refused_held st new session stmt (plain_reply st session stmt) s.2).locks
    moved stmt Done s = done stmt s.2.0 s.2.1
    moved stmt (Found row) s = idle st new session stmt (Found row) refl
        (ap (λ (s : State). s.locks) s.2.1 ∙ looked stmt (sym (ap is_lookup s.2.0)))
    moved stmt (Listed rows) s = idle st new session stmt (Listed rows) refl
        (ap (λ (s : State). s.locks) s.2.1 ∙ looked stmt (sym (ap is_lookup s.2.0)))
    moved stmt (Keyed keys) s = idle st new session stmt (Keyed keys) refl
        (ap (λ (s : State). s.locks) s.2.1 ∙ looked stmt (sym (ap is_lookup s.2.0)))
    moved stmt Absent s = idle st new session stmt Absent refl (same st new session stmt s.2.1)
    moved stmt Duplicate s =
        idle st new session stmt Duplicate refl (same st new session stmt s.2.1)
    moved stmt (Held owner) s =
        idle st new session stmt (Held owner) refl (same st new session stmt s.2.1)
