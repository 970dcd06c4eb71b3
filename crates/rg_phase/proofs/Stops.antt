-- Which events may be the next one of a step.
use Rattle.std.proofs.Common.{◌≡◌, ◌==◌, ◌&&◌, ◌≤◌, ◌<◌, ◌+◌, nat_le, nat_lt, ℕ, Bool, true, false}
use Rattle.std.proofs.Common.{Option, Some, if◌then◌else◌, refl, sym, ◌∙◌, ap, subst, arith}
use Rattle.std.proofs.lemmas.Bool.Decides.{nat_tests}
use Rattle.std.specs.Option.{is_some}
use Rattle.std.proofs.lemmas.Bool.{ltb-true}
use Rattle.rg_base.specs.declared.control.Answer.{Answer}
use Rattle.rg_base.specs.declared.options.DrainFor.{DrainFor}
use Rattle.rg_base.specs.declared.options.DrainFor.TheVariants as what
use Rattle.rg_base.specs.declared.options.DrainState.{DrainState}
use Rattle.rg_base.specs.declared.options.DrainState.TheVariants as drains
use Rattle.rg_base.specs.declared.session.Session.{Session}
use Rattle.rg_base.specs.declared.step.Step.{Step}
use Rattle.rg_base.specs.declared.step.Step.TheVariants as steps
use Rattle.rg_base.specs.declared.verdict.DrainVerdict.{DrainVerdict}
use Rattle.rg_base.specs.declared.verdict.DrainVerdict.TheVariants as waits
use Rattle.rg_base.specs.declared.verdict.StopReason.TheVariants as reasons
use Rattle.rg_base.proofs.Small.{nat_itself}
use Rattle.rg_feed.specs.declared.fold.item.Stage.{Stage}
use Rattle.rg_model.specs.Same.{same_reason}
use Rattle.rg_model.specs.State.{Utility}
use Rattle.rg_model.specs.Turn.{Turn, Runs, Stops, alter, early_stop, end_turn, is_term, step_of}
use Rattle.rg_model.specs.Turn.{step_by_drain, term_turn, turn_at, turn_if, turn_of, wait_turn}
use Rattle.rg_model.specs.Verdict.{drain_verdict}
use Rattle.rg_rules.specs.Stage.NumbersOf.{numbers_of}
use Rattle.rg_stmt.specs.declared.event.Event.{Event}
use Rattle.rg_stmt.specs.declared.event.Event.TheVariants as events
use Rattle.rg_laws_utility.specs.TraceStage.Tending.{is_plain}
use Rattle.rg_engine.proofs.ChangeFeedLemmas.Turning.{alter_copied, alter_pages}
use Rattle.rg_phase.specs.Working.{IsReloadEvent, MakesStep, takes}

-- ---- STOP NOMEMORY may be the next event of every step

stop_waits : (all : ℕ) (answer : Answer) (u : Utility) (d : DrainState) (asked : DrainFor)
    (verdict : DrainVerdict)
    → is_plain (wait_turn all answer u d asked verdict (events.Stop reasons.NoMemory)) ≡ true
stop_waits all answer u d asked (waits.Wait session) = refl
stop_waits all answer u d asked waits.Granted = refl
stop_waits all answer u d asked waits.GiveUp = refl
stop_waits all answer u d asked (waits.Stop reason) = by_test (same_reason reasons.NoMemory reason)
  where
    by_test : (b : Bool)
        → is_plain (if b then Some Stops else early_stop (events.Stop reasons.NoMemory)) ≡ true
    by_test true = refl
    by_test false = refl

stop_at : (step : Step) (all : ℕ) (blocker : Option Session) (answer : Answer) (u : Utility)
    (d : DrainState)
    → is_plain (turn_at step all blocker answer u d (events.Stop reasons.NoMemory)) ≡ true
stop_at steps.Unload all blocker answer u d = refl
stop_at steps.Reload all blocker answer u d = refl
stop_at steps.Sort all blocker answer u d = refl
stop_at steps.Build all blocker answer u d = refl
stop_at steps.Log all blocker answer u d = refl
stop_at (steps.Wait asked) all blocker answer u d = stop_waits all answer u d asked
    (drain_verdict u.options u.asked u.failed blocker answer.now answer.estimate)
stop_at steps.Last all blocker answer u d = refl
stop_at (steps.Write granted) all blocker answer u d = refl
stop_at steps.Switch all blocker answer u d = refl
stop_at steps.End all blocker answer u d = refl

pub stop_next : (s : Stage) (all : ℕ) (blocker : Option Session) (answer : Answer)
    → is_plain (turn_of all blocker answer (numbers_of s) s.drain (events.Stop reasons.NoMemory))
    ≡ true
stop_next s all blocker answer = by_switched s.switched
  where
    by_term : (b : Bool)
        → is_plain
        (if b then term_turn (events.Stop reasons.NoMemory)
        else turn_at (step_of (alter (numbers_of s) answer.command) s.drain) all blocker answer
        (alter (numbers_of s) answer.command) s.drain (events.Stop reasons.NoMemory)) ≡ true
    by_term true = refl
    by_term false = stop_at (step_of (alter (numbers_of s) answer.command) s.drain) all blocker
        answer (alter (numbers_of s) answer.command) s.drain

    by_switched : (b : Bool)
        → is_plain
        (if b then end_turn (events.Stop reasons.NoMemory)
        else (if is_term answer.command then term_turn (events.Stop reasons.NoMemory)
        else turn_at (step_of (alter (numbers_of s) answer.command) s.drain) all blocker answer
        (alter (numbers_of s) answer.command) s.drain (events.Stop reasons.NoMemory))) ≡ true
    by_switched true = refl
    by_switched false = by_term (is_term answer.command)

-- ---- a step that the operator lets be made

pub turn_is : (s : Stage) (answer : Answer) (step : Step) → MakesStep s answer step
    → (all : ℕ) (blocker : Option Session) (event : Event)
    → turn_of all blocker answer (numbers_of s) s.drain event
    ≡ turn_at step all blocker answer (alter (numbers_of s) answer.command) s.drain event
turn_is s answer step makes all blocker event =
    ap
    (λ (b : Bool). if b then end_turn event else (if is_term answer.command then term_turn event
    else turn_at (step_of (alter (numbers_of s) answer.command) s.drain) all blocker answer
    (alter (numbers_of s) answer.command) s.drain event)) makes.unswitched
    ∙ ap
    (λ (b : Bool). if b then term_turn event
    else turn_at (step_of (alter (numbers_of s) answer.command) s.drain) all blocker answer
    (alter (numbers_of s) answer.command) s.drain event) makes.no_term
    ∙ ap
    (λ (x : Step). turn_at x all blocker answer (alter (numbers_of s) answer.command) s.drain event)
    makes.step_is

-- WRITTEN, and STOP DEVICE in its place
pub written_next : (s : Stage) (answer : Answer) (granted : DrainFor)
    → MakesStep s answer (steps.Write granted) → (all pages : ℕ) (blocker : Option Session)
    → is_plain (turn_of all blocker answer (numbers_of s) s.drain (events.Written pages)) ≡ true
written_next s answer granted makes all pages blocker =
    ap is_plain (turn_is s answer (steps.Write granted) makes all blocker (events.Written pages))
    ∙ by_drain granted
  where
    by_drain : (g : DrainFor)
        → is_plain
        (turn_at (steps.Write g) all blocker answer (alter (numbers_of s) answer.command) s.drain
        (events.Written pages)) ≡ true
    by_drain what.Writers = refl
    by_drain what.All = refl

pub device_next : (s : Stage) (answer : Answer) (granted : DrainFor)
    → MakesStep s answer (steps.Write granted) → (all : ℕ) (blocker : Option Session)
    → is_plain (turn_of all blocker answer (numbers_of s) s.drain (events.Stop reasons.Device))
    ≡ true
device_next s answer granted makes all blocker = ap is_plain
    (turn_is s answer (steps.Write granted) makes all blocker (events.Stop reasons.Device))

-- the switch, or its fall, is the next event
pub switch_next : (s : Stage) (answer : Answer) → MakesStep s answer steps.Switch
    → (all : ℕ) (blocker : Option Session) (event : Event)
    → is_some
    (turn_at steps.Switch all blocker answer (alter (numbers_of s) answer.command) s.drain event)
    ≡ true
    → is_some (turn_of all blocker answer (numbers_of s) s.drain event) ≡ true
switch_next s answer makes all blocker event is =
    ap (λ (o : Option Turn). is_some o) (turn_is s answer steps.Switch makes all blocker event) ∙ is

-- ---- the drain of a step that writes or switches

abbrev is_late_step : Step → Bool
is_late_step steps.Unload = false
is_late_step steps.Reload = false
is_late_step steps.Sort = false
is_late_step steps.Build = false
is_late_step step = true

under_all : (a b : Bool) (granted given : DrainFor)
    → (if a then steps.Last else (if b then steps.Write granted else steps.Switch))
    ≡ steps.Write given
    → granted ≡ given
under_all true b granted given e = absurd (cc (e))
under_all false true granted given e = ap from e
  where
    from : Step → DrainFor
    from (steps.Write g) = g
    from step = granted
under_all false false granted given e = absurd (cc (e))

by_drain_is : (u : Utility) (d : DrainState) (given : DrainFor)
    → step_by_drain u d ≡ steps.Write given → d ≡ drains.Granted given
by_drain_is u drains.Free given e = absurd (cc (e))
by_drain_is u (drains.Asked asked) given e = absurd (cc (e))
by_drain_is u (drains.Granted granted) given e = ap drains.Granted (under_all _ _ granted given e)

-- a step that comes after BUILD is the one of the drain
after_build : (u : Utility) (d : DrainState) (step : Step) → is_late_step step ≡ true
    → step_of u d ≡ step → step_by_drain u d ≡ step
after_build u d step late e = by_unload (nat_lt u.copied u.pages) e
  where
    by_build : (b : Bool) → (if b then steps.Build else step_by_drain u d) ≡ step
        → step_by_drain u d ≡ step
    by_build true e = absurd (cc (late, e))
    by_build false e = e

    by_sort : (b : Bool)
        → (if b then steps.Sort else (if nat_lt u.built 3 then steps.Build else step_by_drain u d))
        ≡ step
        → step_by_drain u d ≡ step
    by_sort true e = absurd (cc (late, e))
    by_sort false e = by_build (nat_lt u.built 3) e

    by_reload : (b : Bool)
        → (if b then steps.Reload else (if nat_lt u.sorted 3 then steps.Sort
        else (if nat_lt u.built 3 then steps.Build else step_by_drain u d))) ≡ step
        → step_by_drain u d ≡ step
    by_reload true e = absurd (cc (late, e))
    by_reload false e = by_sort (nat_lt u.sorted 3) e

    by_unload : (b : Bool)
        → (if b then steps.Unload
        else (if nat_lt u.reloaded u.unloaded then steps.Reload else (if nat_lt u.sorted 3
        then steps.Sort else (if nat_lt u.built 3 then steps.Build else step_by_drain u d)))) ≡ step
        → step_by_drain u d ≡ step
    by_unload true e = absurd (cc (late, e))
    by_unload false e = by_reload (nat_lt u.reloaded u.unloaded) e

pub write_drain : (s : Stage) (answer : Answer) (given : DrainFor)
    → MakesStep s answer (steps.Write given) → s.drain ≡ drains.Granted given
write_drain s answer given makes = by_drain_is (alter (numbers_of s) answer.command) s.drain given
    (after_build (alter (numbers_of s) answer.command) s.drain (steps.Write given) refl
    makes.step_is)

switch_is : (u : Utility) (d : DrainState) → step_by_drain u d ≡ steps.Switch
    → (granted : DrainFor) × (d ≡ drains.Granted granted)
switch_is u drains.Free e = absurd (cc (e))
switch_is u (drains.Asked asked) e = absurd (cc (e))
switch_is u (drains.Granted granted) e = (granted, refl)

pub switch_drain : (s : Stage) (answer : Answer) → MakesStep s answer steps.Switch
    → (granted : DrainFor) × (s.drain ≡ drains.Granted granted)
switch_drain s answer makes = switch_is (alter (numbers_of s) answer.command) s.drain
    (after_build (alter (numbers_of s) answer.command) s.drain steps.Switch refl makes.step_is)

-- ---- UNLOAD and RELOAD

-- pages are left to be copied
left_to_copy : (u : Utility) (d : DrainState) → step_of u d ≡ steps.Unload
    → nat_lt u.copied u.pages ≡ true
left_to_copy u d e = by_unload (nat_lt u.copied u.pages) e
  where
    under : (a b : Bool) (granted : DrainFor)
        → (if a then steps.Last else (if b then steps.Write granted else steps.Switch))
        ≡ steps.Unload
        → ⊥
    under true b granted e = cc (e)
    under false true granted e = cc (e)
    under false false granted e = cc (e)

    by_drain : (d : DrainState) → step_by_drain u d ≡ steps.Unload → ⊥
    by_drain drains.Free e = cc (e)
    by_drain (drains.Asked asked) e = cc (e)
    by_drain (drains.Granted granted) e = under _ _ granted e

    later : (a b c : Bool)
        → (if a then steps.Reload
        else (if b then steps.Sort else (if c then steps.Build else step_by_drain u d)))
        ≡ steps.Unload
        → ⊥
    later true b c e = cc (e)
    later false true c e = cc (e)
    later false false true e = cc (e)
    later false false false e = by_drain d e

    by_unload : (b : Bool)
        → (if b then steps.Unload
        else (if nat_lt u.reloaded u.unloaded then steps.Reload else (if nat_lt u.sorted 3
        then steps.Sort else (if nat_lt u.built 3 then steps.Build else step_by_drain u d))))
        ≡ steps.Unload
        → b ≡ true
    by_unload true e = refl
    by_unload false e =
        absurd (later (nat_lt u.reloaded u.unloaded) (nat_lt u.sorted 3) (nat_lt u.built 3) e)

pub unload_more : (s : Stage) (answer : Answer) → MakesStep s answer steps.Unload
    → s.copied < s.pages
unload_more s answer makes =
    subst (λ (n : ℕ). n < s.pages) (alter_copied (numbers_of s) answer.command)
    (subst (λ (n : ℕ). (alter (numbers_of s) answer.command).copied < n)
    (alter_pages (numbers_of s) answer.command)
    (ltb-true (alter (numbers_of s) answer.command).copied
    (alter (numbers_of s) answer.command).pages
    (left_to_copy (alter (numbers_of s) answer.command) s.drain makes.step_is)))

within : (rows : ℕ) → rows ≤ 225 → nat_le rows 225 ≡ true
within rows few = grind (arith, nat_tests, few)

pub unload_next : (s : Stage) (answer : Answer) → MakesStep s answer steps.Unload → (page : ℕ)
    → page ≡ s.copied + 1 → (rows : ℕ) → rows ≤ 225 → (all : ℕ) (blocker : Option Session)
    → is_plain (turn_of all blocker answer (numbers_of s) s.drain (events.Unload page rows)) ≡ true
unload_next s answer makes page is rows few all blocker =
    let u = alter (numbers_of s) answer.command in
    let here : (page == u.copied + 1) ≡ true =
    ap (λ (n : ℕ). page == n + 1) (alter_copied (numbers_of s) answer.command)
    ∙ ap (λ (n : ℕ). page == n) (sym is) ∙ nat_itself page in
    ap is_plain (turn_is s answer steps.Unload makes all blocker (events.Unload page rows))
    ∙ ap
    (λ (b : Bool). is_plain
    (turn_if (b && nat_le rows 225)
    (Runs (record u { copied = page; unloaded = u.unloaded + rows }) s.drain))) here
    ∙ ap
    (λ (b : Bool).
    is_plain (turn_if b (Runs (record u { copied = page; unloaded = u.unloaded + rows }) s.drain)))
    (within rows few)

pub reload_next : (s : Stage) (answer : Answer) → MakesStep s answer steps.Reload → (event : Event)
    → IsReloadEvent s event → (all : ℕ) (blocker : Option Session)
    → is_plain (turn_of all blocker answer (numbers_of s) s.drain event) ≡ true
reload_next s answer makes event is all blocker =
    ap is_plain (turn_is s answer steps.Reload makes all blocker event) ∙ is.next all blocker answer

pub reload_stops : (s : Stage)
    → IsReloadEvent s (events.Stop reasons.NoSpace) × IsReloadEvent s (events.Stop reasons.NoMemory)
reload_stops s = (
  record { booked = refl; device = refl; next = λ all covered answer. refl },
  record { booked = refl; device = refl; next = λ all covered answer. refl },
)

-- ---- STOP NOSPACE, where changes are taken

module _ (all : ℕ) (blocker : Option Session) (answer : Answer) (u : Utility) (d : DrainState) where
  -- a step that takes changes may stop so, and no other takes any
  abbrev StopsFor : Option Turn → Option Turn → Type 0
  StopsFor taken stopped = is_plain taken ≡ true → is_plain stopped ≡ true

  waits_never : (asked : DrainFor) (verdict : DrainVerdict) (event : Event) → takes event ≡ true
      → StopsFor (wait_turn all answer u d asked verdict event)
      (wait_turn all answer u d asked verdict (events.Stop reasons.NoSpace))
  waits_never asked (waits.Wait session) (events.Log iteration took left verdict) is plain =
      absurd (cc (plain))
  waits_never asked (waits.Wait session) (events.Last took left) is plain = absurd (cc (plain))
  waits_never asked waits.Granted (events.Log iteration took left verdict) is plain =
      absurd (cc (plain))
  waits_never asked waits.Granted (events.Last took left) is plain = absurd (cc (plain))
  waits_never asked waits.GiveUp (events.Log iteration took left verdict) is plain =
      absurd (cc (plain))
  waits_never asked waits.GiveUp (events.Last took left) is plain = absurd (cc (plain))
  waits_never asked (waits.Stop reason) (events.Log iteration took left verdict) is plain =
      absurd (cc (plain))
  waits_never asked (waits.Stop reason) (events.Last took left) is plain = absurd (cc (plain))
  waits_never asked verdict event is plain = absurd (cc (is))

  space_at : (step : Step) (event : Event) → takes event ≡ true
      → StopsFor (turn_at step all blocker answer u d event)
      (turn_at step all blocker answer u d (events.Stop reasons.NoSpace))
  space_at steps.Log event is plain = refl
  space_at steps.Last event is plain = refl
  space_at steps.Reload event is plain = refl
  space_at (steps.Wait asked) event is plain = waits_never asked
      (drain_verdict u.options u.asked u.failed blocker answer.now answer.estimate) event is plain
  space_at steps.Unload (events.Log iteration took left verdict) is plain = absurd (cc (plain))
  space_at steps.Unload (events.Last took left) is plain = absurd (cc (plain))
  space_at steps.Sort (events.Log iteration took left verdict) is plain = absurd (cc (plain))
  space_at steps.Sort (events.Last took left) is plain = absurd (cc (plain))
  space_at steps.Build (events.Log iteration took left verdict) is plain = absurd (cc (plain))
  space_at steps.Build (events.Last took left) is plain = absurd (cc (plain))
  space_at (steps.Write granted) (events.Log iteration took left verdict) is plain =
      absurd (cc (plain))
  space_at (steps.Write granted) (events.Last took left) is plain = absurd (cc (plain))
  space_at steps.Switch (events.Log iteration took left verdict) is plain = absurd (cc (plain))
  space_at steps.Switch (events.Last took left) is plain = absurd (cc (plain))
  space_at steps.End (events.Log iteration took left verdict) is plain = absurd (cc (plain))
  space_at steps.End (events.Last took left) is plain = absurd (cc (plain))
  space_at step event is plain = absurd (cc (is))

pub space_next : (s : Stage) (all : ℕ) (blocker : Option Session) (answer : Answer) (event : Event)
    → takes event ≡ true → s.switched ≡ false
    → is_plain (turn_of all blocker answer (numbers_of s) s.drain event) ≡ true
    → is_plain (turn_of all blocker answer (numbers_of s) s.drain (events.Stop reasons.NoSpace))
    ≡ true
space_next s all blocker answer event is unswitched plain =
    let u = alter (numbers_of s) answer.command in
    let by : Bool → Bool → Event → Option Turn = λ a b e. if a then end_turn e
    else (if b then term_turn e else turn_at (step_of u s.drain) all blocker answer u s.drain e) in
    let opened_to : (e : Event)
    → turn_of all blocker answer (numbers_of s) s.drain e ≡ by false (is_term answer.command) e =
    λ e. ap (λ (a : Bool). by a (is_term answer.command) e) unswitched in
    ap is_plain (opened_to (events.Stop reasons.NoSpace))
    ∙ by_term (is_term answer.command) event is (ap is_plain (sym (opened_to event)) ∙ plain)
  where
    by_term : (b : Bool) (event : Event) → takes event ≡ true
        → is_plain
        (if b then term_turn event
        else turn_at (step_of (alter (numbers_of s) answer.command) s.drain) all blocker answer
        (alter (numbers_of s) answer.command) s.drain event) ≡ true
        → is_plain
        (if b then term_turn (events.Stop reasons.NoSpace)
        else turn_at (step_of (alter (numbers_of s) answer.command) s.drain) all blocker answer
        (alter (numbers_of s) answer.command) s.drain (events.Stop reasons.NoSpace)) ≡ true
    by_term true (events.Log iteration took left verdict) is plain = absurd (cc (plain))
    by_term true (events.Last took left) is plain = absurd (cc (plain))
    by_term true event is plain = absurd (cc (is))
    by_term false event is plain = space_at all blocker answer (alter (numbers_of s) answer.command)
        s.drain (step_of (alter (numbers_of s) answer.command) s.drain) event is plain
