-- The steps of a calm utility, one after the other.
use Rattle.std.proofs.Common.{◌≡◌, ◌≤◌, ◌+◌, ◌==◌, ◌&&◌, ◌⊎◌, inl, inr, ℕ, Bool, true, false, not}
use Rattle.std.proofs.Common.{List, [], ◌∷◌, ◌++◌, Option, Some, None, is_some, cond, if◌then◌else◌}
use Rattle.std.proofs.Common.{refl, sym, ◌∙◌, ap, subst, arith}
use Rattle.std.specs.List.{AllByRecursion}
use Rattle.std.proofs.lemmas.Bool.{and_parts, not-true}
use Rattle.rg_base.specs.declared.control.Answer.{Answer}
use Rattle.rg_base.specs.declared.control.Maxro.TheVariants.{Within}
use Rattle.rg_base.specs.declared.options.DrainFor.{DrainFor}
use Rattle.rg_base.specs.declared.options.DrainFor.TheVariants as what
use Rattle.rg_base.specs.declared.options.DrainState.{DrainState}
use Rattle.rg_base.specs.declared.options.DrainState.TheVariants as drains
use Rattle.rg_base.specs.declared.options.Options.{Options}
use Rattle.rg_base.specs.declared.session.Session.{Session}
use Rattle.rg_stmt.specs.declared.event.Actor.{Actor}
use Rattle.rg_stmt.specs.declared.event.Actor.TheVariants as actors
use Rattle.rg_stmt.specs.declared.event.Entry.{Entry}
use Rattle.rg_stmt.specs.declared.event.Event.{Event}
use Rattle.rg_stmt.specs.declared.event.Event.TheVariants as events
use Rattle.rg_model.specs.Changes.{changes, changes_after}
use Rattle.rg_model.specs.Claims.{least_holder}
use Rattle.rg_model.specs.Legal.{asks}
use Rattle.rg_model.specs.Possible.{next_state, state_after_step}
use Rattle.rg_model.specs.Run.{Allows, Run}
use Rattle.rg_model.specs.State.{State, Table, Utility, at_rest}
use Rattle.rg_model.specs.Run.{behind}
use Rattle.rg_laws_utility.proofs.CourseLemmas.Resting.{IsRest, rests, rests_at_first}
use Rattle.rg_model.specs.Turn.{Turn, Runs, Switches, Stops, Falls, alter, end_turn, is_term}
use Rattle.rg_model.specs.Turn.{step_of, term_turn, turn_at, turn_of, wait_turn}
use Rattle.rg_model.specs.Verdict.{drain_verdict}
use Rattle.rg_base.specs.declared.step.Step.{Step}
use Rattle.rg_base.specs.declared.step.Step.TheVariants as steps
use Rattle.rg_base.specs.declared.verdict.DrainVerdict.{DrainVerdict}
use Rattle.rg_base.specs.declared.verdict.DrainVerdict.TheVariants as waits
use Rattle.rg_model.specs.Utility.{new_utility, start_utility, state_by_turn, state_of_turn}
use Rattle.rg_model.specs.Utility.{state_stepped, stop_utility}
use Rattle.rg_model.proofs.Allowed.{allowed_is, allowed_was, some_is}
use Rattle.rg_laws_utility.specs.Course.Course.{AreInTime, EndsAfter, IsCalmStep, IsOver, calm}
use Rattle.rg_laws_utility.specs.Course.Course.{is_end, is_hindered, step_count, steps_after}
use Rattle.rg_laws_utility.specs.Course.Course.{steps_in}
use Rattle.rg_laws_utility.proofs.CourseLemmas.Told.{run_parts}
use Rattle.rg_laws_utility.proofs.CourseLemmas.Phases.{Phase, Early, phase_left, tail}
use Rattle.rg_laws_utility.proofs.CourseLemmas.Steps.{Leads, LeadsIf, phase_leads}

-- the state has such a utility, and is up
record IsCalmState (most : ℕ) (st : State) (u : Utility) (n : ℕ) : Type 0 where
  pub utility : st.utility ≡ Some u
  pub up : st.down ≡ false
  pub phase : Phase most u st.drain n

-- ---- one step

step_next : (past : List Entry) (answer : Option Answer) (event : Event) (st new : State)
    → asks event ≡ true → next_state past answer actors.Utility event st ≡ Some new
    → state_after_step past answer event st st.utility ≡ Some new
step_next past answer (events.Started options copy pages) st new is e = absurd (cc is)
step_next past answer events.Active st new is e = absurd (cc is)
step_next past answer (events.StartLogFull need left) st new is e = absurd (cc is)
step_next past answer events.StartDown st new is e = absurd (cc is)
step_next past answer events.StartNoMemory st new is e = absurd (cc is)
step_next past answer events.Idle st new is e = absurd (cc is)
step_next past answer events.StepDown st new is e = absurd (cc is)
step_next past answer event st new is e = e

no_change : (past : List Entry) (event : Event) (before : ℕ) → asks event ≡ true → before ≡ 0
    → changes_after actors.Utility event past before ≡ 0
no_change past (events.Started options copy pages) before is none = refl
no_change past event before is none = ap (λ (n : ℕ). n + 0) none

-- what a step leaves
record Next (most : ℕ) (event : Event) (new : State) (n : ℕ) : Type 0 where
  pub u : Utility
  pub m : ℕ
  pub fewer : n ≡ step_count event + m
  pub calm : IsCalmState most new u m

abbrev Stepped : ℕ → Event → State → ℕ → Type 0
Stepped most event new n =
    Next most event new n ⊎ ((n ≡ 1) × (event ≡ events.Ended) × (new.utility ≡ None))

module _ (most : ℕ) (past : List Entry) (st new : State) (u : Utility) (n : ℕ) (event : Event)
    (up : st.down ≡ false) where
  turned : (turn : Turn) → Leads most n event turn → state_of_turn past st u turn ≡ Some new
      → Stepped most event new n
  turned (Runs v later) leads e =
      let is : new ≡ record st { drain = later; utility = Some v } =
      some_is (record st { drain = later; utility = Some v }) new e in
      inl (record {
        u = v;
        m = leads.0;
        fewer = leads.1;
        calm = record {
          utility = ap (λ (x : State). x.utility) is;
          up = ap (λ (x : State). x.down) is ∙ up;
          phase = subst (λ (x : State). Phase most v x.drain leads.0) (sym is) leads.2;
        };
      })
  turned (Switches copy sides v) leads e =
      let is : new ≡ record st { copy = copy; drain = drains.Free; utility = Some v } =
      allowed_is _ (record st { copy = copy; drain = drains.Free; utility = Some v }) new e in
      inl (record {
        u = v;
        m = leads.0;
        fewer = leads.1;
        calm = record {
          utility = ap (λ (x : State). x.utility) is;
          up = ap (λ (x : State). x.down) is ∙ up;
          phase = leads.2 new.drain;
        };
      })
  turned Stops leads e =
      inr (leads.0, leads.1, ap (λ (x : State). x.utility) (some_is (stop_utility st) new e))
  turned Falls leads e = absurd leads

  turned_if : (turn : Option Turn) → LeadsIf most n event turn
      → state_by_turn past st u turn ≡ Some new → Stepped most event new n
  turned_if None leads e = absurd (cc e)
  turned_if (Some turn) leads e = turned turn leads e

stepped : (most : ℕ) (past : List Entry) (st new : State) (u : Utility) (n : ℕ) (event : Event)
    → IsCalmState most st u n → changes past ≡ 0 → is_hindered event ≡ false
    → state_after_step past (Some calm) event st st.utility ≡ Some new → Stepped most event new n
stepped most past st new u n event is none goes_on e =
    turned_if most past st new u n event is.up
    (turn_of (changes past) (least_holder st.drain st.claims) calm u st.drain event) (subst
    (λ (k : ℕ). LeadsIf most n event
    (turn_of k (least_holder st.drain st.claims) calm u st.drain event)) (sym none)
    (phase_leads most n (least_holder st.drain st.claims) u event goes_on st.drain is.phase))
    (go st.down is.up (ap (state_after_step past (Some calm) event st) (sym is.utility) ∙ e))
  where
    go : (down : Bool) → down ≡ false
        → cond down None (state_stepped past (Some calm) event st u) ≡ Some new
        → state_stepped past (Some calm) event st u ≡ Some new
    go true is e = absurd (cc is)
    go false is e = e

-- ---- all steps

allowed : (past : List Entry) (entry : Entry) (st new : State) → IsCalmStep entry
    → Allows past entry.answer entry.actor entry.event st new
    → state_after_step past (Some calm) entry.event st st.utility ≡ Some new
allowed past entry st new is allows =
    step_next past (Some calm) entry.event st new is.asked
    (ap (λ (o : Option Answer). next_state past o actors.Utility entry.event st) (sym is.answer)
    ∙ subst (λ (a : Actor). Allows past entry.answer a entry.event st new) is.actor allows)

-- no step follows where no utility runs
no_more : (past : List Entry) (entries : List Entry) (st new : State) → st.utility ≡ None
    → AllByRecursion IsCalmStep entries → Run past st entries new → entries ≡ []
no_more past [] st new none all run = refl
no_more past (entry ∷ entries) st new none all run = absurd
    (cc
    (ap (state_after_step past (Some calm) entry.event st) (sym none)
    ∙ allowed past entry st run.0 all.0 run.1))

-- after ENDED no utility runs
abbrev OnlyStops : Option Turn → Type 0
OnlyStops None = Unit {0}
OnlyStops (Some (Runs v later)) = ⊥
OnlyStops (Some (Switches copy sides v)) = ⊥
OnlyStops (Some Stops) = Unit {0}
OnlyStops (Some Falls) = ⊥

module _ (all : ℕ) (blocker : Option Session) (answer : Answer) (drain : DrainState) where
  ended_waits : (u : Utility) (asked : DrainFor) (verdict : DrainVerdict)
      → OnlyStops (wait_turn all answer u drain asked verdict events.Ended)
  ended_waits u asked (waits.Wait session) = tt
  ended_waits u asked waits.Granted = tt
  ended_waits u asked waits.GiveUp = tt
  ended_waits u asked (waits.Stop reason) = tt

  ended_at : (u : Utility) (step : Step)
      → OnlyStops (turn_at step all blocker answer u drain events.Ended)
  ended_at u steps.Unload = tt
  ended_at u steps.Reload = tt
  ended_at u steps.Sort = tt
  ended_at u steps.Build = tt
  ended_at u steps.Log = tt
  ended_at u (steps.Wait asked) = ended_waits u asked
      (drain_verdict u.options u.asked u.failed blocker answer.now answer.estimate)
  ended_at u steps.Last = tt
  ended_at u (steps.Write granted) = tt
  ended_at u steps.Switch = tt
  ended_at u steps.End = tt

  ended_stops : (u : Utility) → OnlyStops (turn_of all blocker answer u drain events.Ended)
  ended_stops u = by_switched u.switched
    where
      v : Utility
      v = alter u answer.command

      by_term : (b : Bool)
          → OnlyStops
          (if b then term_turn events.Ended
          else turn_at (step_of v drain) all blocker answer v drain events.Ended)
      by_term true = tt
      by_term false = ended_at v (step_of v drain)

      by_switched : (b : Bool)
          → OnlyStops
          (if b then end_turn events.Ended
          else (if is_term answer.command then term_turn events.Ended
          else turn_at (step_of v drain) all blocker answer v drain events.Ended))
      by_switched true = tt
      by_switched false = by_term (is_term answer.command)

module _ (past : List Entry) (st new : State) where
  stops_gone : (u : Utility) (turn : Option Turn) → OnlyStops turn
      → state_by_turn past st u turn ≡ Some new → new.utility ≡ None
  stops_gone u None only e = absurd (cc e)
  stops_gone u (Some (Runs v later)) only e = absurd only
  stops_gone u (Some (Switches copy sides v)) only e = absurd only
  stops_gone u (Some Stops) only e = ap (λ (s : State). s.utility) (some_is (stop_utility st) new e)
  stops_gone u (Some Falls) only e = absurd only

  ended_gone : (o : Option Utility) → state_after_step past (Some calm) events.Ended st o ≡ Some new
      → new.utility ≡ None
  ended_gone None e = absurd (cc e)
  ended_gone (Some u) e = by_down st.down e
    where
      by_down : (b : Bool)
          → (if b then None else state_stepped past (Some calm) events.Ended st u) ≡ Some new
          → new.utility ≡ None
      by_down true e = absurd (cc e)
      by_down false e = stops_gone u
          (turn_of (changes past) (least_holder st.drain st.claims) calm u st.drain events.Ended)
          (ended_stops (changes past) (least_holder st.drain st.claims) calm st.drain u) e

  -- a step after which the utility runs is not ENDED
  not_end : (event : Event) (v : Utility) → new.utility ≡ Some v
      → state_after_step past (Some calm) event st st.utility ≡ Some new → is_end event ≡ false
  not_end events.Ended v runs e = absurd (cc (sym (ended_gone st.utility e) ∙ runs))
  not_end event v runs e = refl

goes : (most : ℕ) (past : List Entry) (entries : List Entry) (st new : State) (u : Utility) (n : ℕ)
    → IsCalmState most st u n → changes past ≡ 0 → AllByRecursion IsCalmStep entries
    → Run past st entries new → EndsAfter n entries
goes most past [] st new u n is none all run =
    let low : 1 ≤ n = phase_left most u st.drain n is.phase in
    record { most = omega arith; over = λ e. absurd (omega arith); early = λ below. tt }
goes most past (entry ∷ entries) st new u n is none all run =
    by_step (λ v m calm. goes most (entry ∷ past) entries run.0 new v m calm none_now all.1 run.2)
    (stepped most past st run.0 u n entry.event is none all.0.goes_on step)
  where
    step : state_after_step past (Some calm) entry.event st st.utility ≡ Some run.0
    step = allowed past entry st run.0 all.0 run.1

    none_now : changes (entry ∷ past) ≡ 0
    none_now = ap (λ (a : Actor). changes_after a entry.event past (changes past)) all.0.actor
        ∙ no_change past entry.event (changes past) all.0.asked none

    by_step : ((v : Utility) (m : ℕ) → IsCalmState most run.0 v m → EndsAfter m entries)
        → Stepped most entry.event run.0 n → EndsAfter n (entry ∷ entries)
    by_step going (inl next) =
        let rest : EndsAfter next.m entries = going next.u next.m next.calm in
        let fewer : n ≡ step_count entry.event + next.m = next.fewer in
        let few : steps_in entries ≤ next.m = rest.most in
        record {
          most = omega arith;
          over = λ e.
              let over : IsOver entries = rest.over (omega arith) in
              record {
                front = entry ∷ over.front;
                last = over.last;
                joined = ap (λ (es : List Entry). entry ∷ es) over.joined;
                event = over.event;
              };
          early = λ below. (
            not_end past st run.0 entry.event next.u next.calm.utility step,
            rest.early (omega arith),
          );
        }
    by_step going (inr (one, event, gone)) =
        let end : entries ≡ [] = no_more (entry ∷ past) entries run.0 new gone all.1 run.2 in
        let count : steps_in (entry ∷ entries) ≡ 1 =
        ap (λ (es : List Entry). steps_in (entry ∷ es)) end
        ∙ ap (λ (e : Event). step_count e + 0) event in
        record {
          most = omega arith;
          over = λ e. record {
            front = [];
            last = entry;
            joined = ap (λ (es : List Entry). entry ∷ es) end;
            event = event;
          };
          early = λ below. absurd (omega arith);
        }

-- ---- the start

starts : (past : List Entry) (answer : Option Answer) (actor : Actor) (st new : State)
    (options : Options) (copy pages : ℕ)
    → Allows past answer actor (events.Started options copy pages) st new
    → (st.down ≡ false) × (new ≡ start_utility st options pages)
starts past answer (actors.Session session) st new options copy pages e = absurd (cc e)
starts past answer actors.System st new options copy pages e = absurd (cc e)
starts past answer actors.Utility st new options copy pages e = (
  not-true st.down
      (and_parts (not st.down) (not (is_some st.utility) && copy == st.copy)
      (allowed_was (not st.down && (not (is_some st.utility) && copy == st.copy))
      (start_utility st options pages) new e)).0,
  allowed_is (not st.down && (not (is_some st.utility) && copy == st.copy))
      (start_utility st options pages) new e,
)

from_start : (d : DrainFor) → steps_after d ≡ 6 + tail d
from_start what.Writers = refl
from_start what.All = refl

started_idle : (past : List Entry) (answer : Option Answer) (actor : Actor) (st new : State)
    (options : Options) (copy pages : ℕ)
    → Allows past answer actor (events.Started options copy pages) st new → st.utility ≡ None
started_idle past answer (actors.Session session) st new options copy pages e = absurd (cc e)
started_idle past answer actors.System st new options copy pages e = absurd (cc e)
started_idle past answer actors.Utility st new options copy pages e = none st.utility
    (and_parts (not (is_some st.utility)) (copy == st.copy)
    (and_parts (not st.down) (not (is_some st.utility) && copy == st.copy)
    (allowed_was (not st.down && (not (is_some st.utility) && copy == st.copy))
    (start_utility st options pages) new e)).1).0
  where
    none : (o : Option Utility) → not (is_some o) ≡ true → o ≡ None
    none None e = refl
    none (Some u) e = absurd (cc e)

ends_from_start : (past entries : List Entry) (started : Entry) (options : Options)
    (copy pages most : ℕ) (st new : State) → IsRest st
    → started.event ≡ events.Started options copy pages → options.maxro ≡ Within most
    → AllByRecursion IsCalmStep entries
    → Run past st (started ∷ entries) new → EndsAfter (pages + steps_after options.drain) entries
ends_from_start past entries started options copy pages most st new rest event maxro all run =
    let start : Allows past started.answer started.actor (events.Started options copy pages) st
    run.0 =
    subst (λ (e : Event). Allows past started.answer started.actor e st run.0) event run.1 in
    let begun = starts past started.answer started.actor st run.0 options copy pages start in
    let free : st.drain ≡ drains.Free =
    rest (started_idle past started.answer started.actor st run.0 options copy pages start) in
    let u : Utility = new_utility options pages in
    let count : steps_after options.drain ≡ 6 + tail options.drain = from_start options.drain in
    goes most (started ∷ past) entries run.0 new u (pages + steps_after options.drain)
    (record {
      utility = ap (λ (x : State). x.utility) begun.1;
      up = ap (λ (x : State). x.down) begun.1 ∙ begun.0;
      phase =
          Early (record { maxro = maxro; done = refl; target = refl; gave_up = refl })
          (ap (λ (x : State). x.drain) begun.1 ∙ free)
          (record {
            last = refl;
            written = refl;
            switched = refl;
            copied = omega arith;
            sorted = omega arith;
            built = omega arith;
            left = omega arith;
          });
    })
    (ap (λ (e : Event). changes_after started.actor e past (changes past)) event) all run.2

pub ends_in_time : (table : Table) (copy : ℕ) (trace : List Entry) (last : State)
    → Run [] (at_rest table copy) trace last → AreInTime trace
ends_in_time table first trace final run before entries rest started options copy pages most joined
    event maxro all =
    let whole : Run [] (at_rest table first) (before ++ (started ∷ entries ++ rest)) final =
    subst (λ (es : List Entry). Run [] (at_rest table first) es final) joined run in
    let start = run_parts [] before (started ∷ entries ++ rest) (at_rest table first) final whole in
    let end = run_parts (behind [] before) (started ∷ entries) rest start.mid final start.back in
    ends_from_start (behind [] before) entries started options copy pages most start.mid end.mid
    (rests [] before (at_rest table first) start.mid (rests_at_first table first) start.front) event
    maxro all end.front
