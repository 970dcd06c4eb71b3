-- Which turn an event has at the step that is due, and what is made by the numbers that it leaves.
use Rattle.std.proofs.Common.{◌≡◌, ◌==◌, ◌&&◌, ◌≤◌, ◌<◌, ◌+◌, ◌-◌, ◌⊎◌, inl, inr, ℕ, Bool, true}
use Rattle.std.proofs.Common.{false, min, nat_le, Option, Some, None, if◌then◌else◌, refl, sym, ◌∙◌}
use Rattle.std.proofs.Common.{ap, subst, arith}
use Rattle.std.proofs.lemmas.Bool.Decides.{nat_tests}
use Rattle.rg_base.specs.declared.control.Answer.{Answer}
use Rattle.rg_base.specs.declared.options.DrainFor.{DrainFor}
use Rattle.rg_base.specs.declared.options.DrainFor.TheVariants as what
use Rattle.rg_base.specs.declared.options.DrainState.{DrainState}
use Rattle.rg_base.specs.declared.options.DrainState.TheVariants as drains
use Rattle.rg_base.specs.declared.session.Session.{Session}
use Rattle.rg_base.specs.declared.step.Step.{Step}
use Rattle.rg_base.specs.declared.step.Step.TheVariants as steps
use Rattle.rg_base.specs.declared.verdict.DrainVerdict.{DrainVerdict}
use Rattle.rg_base.specs.declared.verdict.DrainVerdict.TheVariants as waits
use Rattle.rg_base.specs.declared.verdict.StopReason.{StopReason}
use Rattle.rg_base.specs.declared.verdict.StopReason.TheVariants as reasons
use Rattle.rg_base.specs.declared.verdict.Verdict.{Verdict}
use Rattle.rg_base.specs.declared.verdict.Verdict.TheVariants as verdicts
use Rattle.rg_base.specs.declared.which.Which.{Which}
use Rattle.rg_base.specs.declared.which.Which.TheVariants.{Key, Clus, Cat}
use Rattle.rg_desk.specs.declared.task.Task.{Task}
use Rattle.rg_engine.specs.Prepared.{PreparedSeen}
use Rattle.rg_feed.specs.Ends.{Received}
use Rattle.rg_feed.specs.declared.fold.item.Stage.{Stage}
use Rattle.rg_laws_utility.specs.TraceStage.Tending.{IsForAll, is_booked, is_plain}
use Rattle.rg_laws_utility.proofs.TraceStageLemmas.Switching.{plain_turn}
use Rattle.rg_model.specs.Same.{same_reason, same_which}
use Rattle.rg_model.specs.State.{Utility}
use Rattle.rg_model.specs.Turn.{Turn, Runs, Stops, Falls, alter, early_stop, end_turn, give_up}
use Rattle.rg_model.specs.Turn.{is_term, log_verdict, next_iteration, nth_which, step_of, term_turn}
use Rattle.rg_model.specs.Turn.{space_stop}
use Rattle.rg_model.specs.Turn.{turn_at, turn_if, turn_of, verdict_turn, wait_turn, build_next}
use Rattle.rg_model.specs.Verdict.{drain_verdict, is_slow}
use Rattle.rg_rules.specs.Stage.NumbersOf.{numbers_of}
use Rattle.rg_stmt.specs.declared.event.Event.{Event}
use Rattle.rg_stmt.specs.declared.event.Event.TheVariants as events
use Rattle.rg_phase.specs.Made.{EventMakes, StepMakes, TurnMakes, after_back, after_build}
use Rattle.rg_phase.specs.Made.{after_sort}
use Rattle.rg_phase.specs.Made.{after_take, numbers_in}
use Rattle.rg_phase.specs.Working.{IsDueAt, IsIndexed}
use Rattle.rg_phase.specs.declared.made.Made.{Made}
use Rattle.rg_phase.proofs.Due.{due}
use Rattle.rg_phase.proofs.Moving.{SameMaking, step_moved}

-- ---- the turn in parts

pub opened_turn : (all : ℕ) (blocker : Option Session) (answer : Answer) (u : Utility)
    (d : DrainState) (event : Event) (turn : Turn) → u.switched ≡ false
    → turn_of all blocker answer u d event ≡ Some turn
    → (term_turn event ≡ Some turn)
    ⊎ (turn_at (step_of (alter u answer.command) d) all blocker answer (alter u answer.command) d
    event
    ≡ Some turn)
opened_turn all blocker answer u d event turn unswitched is =
    by_term (is_term answer.command)
    (sym
    (ap
    (λ (b : Bool). if b then end_turn event else (if is_term answer.command then term_turn event
    else turn_at (step_of (alter u answer.command) d) all blocker answer (alter u answer.command) d
    event))
    unswitched)
    ∙ is)
  where
    by_term : (b : Bool)
        → (if b then term_turn event
        else turn_at (step_of (alter u answer.command) d) all blocker answer
        (alter u answer.command) d event)
        ≡ Some turn
        → (term_turn event ≡ Some turn)
        ⊎ (turn_at (step_of (alter u answer.command) d) all blocker answer
        (alter u answer.command) d event
        ≡ Some turn)
    by_term true e = inl e
    by_term false e = inr e

pub if_some : (b : Bool) (t turn : Turn) → turn_if b t ≡ Some turn → (b ≡ true) × (turn ≡ t)
if_some true t turn e = (refl, cc (e))
if_some false t turn e = absurd (cc (e))

which_is : (a b : Which) → same_which a b ≡ true → a ≡ b
which_is Key Key e = refl
which_is Key Clus e = absurd (cc (e))
which_is Key Cat e = absurd (cc (e))
which_is Clus Key e = absurd (cc (e))
which_is Clus Clus e = refl
which_is Clus Cat e = absurd (cc (e))
which_is Cat Key e = absurd (cc (e))
which_is Cat Clus e = absurd (cc (e))
which_is Cat Cat e = refl

and_left : (a b : Bool) → (a && b) ≡ true → a ≡ true
and_left true b e = refl
and_left false b e = absurd (cc (e))

and_right : (a b : Bool) → (a && b) ≡ true → b ≡ true
and_right true b e = e
and_right false b e = absurd (cc (e))

equal : (m n : ℕ) → (m == n) ≡ true → m ≡ n
equal m n e = grind (arith, nat_tests, e)

early_stops : (reason : StopReason) (turn : Turn)
    → early_stop (events.Stop reason) ≡ Some turn → turn ≡ Stops
early_stops reasons.Device turn e = cc (e)
early_stops reasons.NoMemory turn e = cc (e)
early_stops reason turn e = absurd (cc (e))

space_stops : (reason : StopReason) (turn : Turn)
    → space_stop (events.Stop reason) ≡ Some turn → turn ≡ Stops
space_stops reasons.Device turn e = cc (e)
space_stops reasons.NoMemory turn e = cc (e)
space_stops reasons.NoSpace turn e = cc (e)
space_stops reason turn e = absurd (cc (e))

pub term_stops : (reason : StopReason) (turn : Turn)
    → term_turn (events.Stop reason) ≡ Some turn → turn ≡ Stops
term_stops reasons.Term turn e = cc (e)
term_stops reasons.NoMemory turn e = cc (e)
term_stops reason turn e = absurd (cc (e))

pub end_stops : (event : Event) (turn : Turn) → end_turn event ≡ Some turn → turn ≡ Stops
end_stops events.Ended turn e = cc (e)
end_stops (events.Stop reasons.Device) turn e = cc (e)
end_stops (events.Stop reasons.NoMemory) turn e = cc (e)
end_stops event turn e = absurd (cc (e))

pub term_ends : (event : Event) (turn : Turn) → term_turn event ≡ Some turn → turn ≡ Stops
term_ends (events.Stop reasons.Term) turn e = cc (e)
term_ends (events.Stop reasons.NoMemory) turn e = cc (e)
term_ends event turn e = absurd (cc (e))

module _ (all : ℕ) (blocker : Option Session) (answer : Answer) (u : Utility) (d : DrainState) where
  pub sort_turns : (step : Step) (which : Which) (turn : Turn)
      → turn_at step all blocker answer u d (events.Sort which) ≡ Some turn
      → (step ≡ steps.Sort) × (which ≡ nth_which u.sorted) × (turn ≡ Runs (after_sort u) d)
  sort_turns steps.Sort which turn e =
      let is = if_some (same_which which (nth_which u.sorted)) (Runs (after_sort u) d) turn e in
      (refl, which_is which (nth_which u.sorted) is.0, is.1)
  sort_turns steps.Unload which turn e = absurd (cc (e))
  sort_turns steps.Reload which turn e = absurd (cc (e))
  sort_turns steps.Build which turn e = absurd (cc (e))
  sort_turns steps.Log which turn e = absurd (cc (e))
  sort_turns (steps.Wait asked) which turn e = absurd
      (never (drain_verdict u.options u.asked u.failed blocker answer.now answer.estimate) e)
    where
      never : (verdict : DrainVerdict)
          → wait_turn all answer u d asked verdict (events.Sort which) ≡ Some turn → ⊥
      never (waits.Wait session) e = cc (e)
      never waits.Granted e = cc (e)
      never waits.GiveUp e = cc (e)
      never (waits.Stop reason) e = cc (e)
  sort_turns steps.Last which turn e = absurd (cc (e))
  sort_turns (steps.Write granted) which turn e = absurd (cc (e))
  sort_turns steps.Switch which turn e = absurd (cc (e))
  sort_turns steps.End which turn e = absurd (cc (e))

  pub build_turns : (step : Step) (which : Which) (turn : Turn)
      → turn_at step all blocker answer u d (events.Build which) ≡ Some turn
      → (step ≡ steps.Build) × (which ≡ nth_which u.built) × (turn ≡ Runs (build_next all u) d)
  build_turns steps.Build which turn e =
      let is = if_some (same_which which (nth_which u.built)) (Runs (build_next all u) d) turn e in
      (refl, which_is which (nth_which u.built) is.0, is.1)
  build_turns steps.Unload which turn e = absurd (cc (e))
  build_turns steps.Reload which turn e = absurd (cc (e))
  build_turns steps.Sort which turn e = absurd (cc (e))
  build_turns steps.Log which turn e = absurd (cc (e))
  build_turns (steps.Wait asked) which turn e = absurd
      (never (drain_verdict u.options u.asked u.failed blocker answer.now answer.estimate) e)
    where
      never : (verdict : DrainVerdict)
          → wait_turn all answer u d asked verdict (events.Build which) ≡ Some turn → ⊥
      never (waits.Wait session) e = cc (e)
      never waits.Granted e = cc (e)
      never waits.GiveUp e = cc (e)
      never (waits.Stop reason) e = cc (e)
  build_turns steps.Last which turn e = absurd (cc (e))
  build_turns (steps.Write granted) which turn e = absurd (cc (e))
  build_turns steps.Switch which turn e = absurd (cc (e))
  build_turns steps.End which turn e = absurd (cc (e))

  pub log_turns : (step : Step) (iteration took left : ℕ) (verdict : Verdict) (turn : Turn)
      → turn_at step all blocker answer u d (events.Log iteration took left verdict) ≡ Some turn
      → (step ≡ steps.Log) × (took ≡ min 64 (u.target - u.done))
      × (turn
      ≡ verdict_turn all answer.now (is_slow left u.size) (after_take took u) d verdict)
  log_turns steps.Log iteration took left verdict turn e =
      let is = if_some _ _ turn e in (
        refl,
        equal took (min 64 (u.target - u.done))
            (and_left (took == min 64 (u.target - u.done)) _
            (and_right (iteration == u.iteration) _ is.0)),
        is.1,
      )
  log_turns steps.Unload iteration took left verdict turn e = absurd (cc (e))
  log_turns steps.Reload iteration took left verdict turn e = absurd (cc (e))
  log_turns steps.Sort iteration took left verdict turn e = absurd (cc (e))
  log_turns steps.Build iteration took left verdict turn e = absurd (cc (e))
  log_turns (steps.Wait asked) iteration took left verdict turn e = absurd
      (never (drain_verdict u.options u.asked u.failed blocker answer.now answer.estimate) e)
    where
      never : (v : DrainVerdict)
          → wait_turn all answer u d asked v (events.Log iteration took left verdict) ≡ Some turn
          → ⊥
      never (waits.Wait session) e = cc (e)
      never waits.Granted e = cc (e)
      never waits.GiveUp e = cc (e)
      never (waits.Stop reason) e = cc (e)
  log_turns steps.Last iteration took left verdict turn e = absurd (cc (e))
  log_turns (steps.Write granted) iteration took left verdict turn e = absurd (cc (e))
  log_turns steps.Switch iteration took left verdict turn e = absurd (cc (e))
  log_turns steps.End iteration took left verdict turn e = absurd (cc (e))

  pub last_turns : (step : Step) (took left : ℕ) (turn : Turn)
      → turn_at step all blocker answer u d (events.Last took left) ≡ Some turn
      → (step ≡ steps.Last) × (took ≡ min 64 (all - u.done))
      × (turn ≡ Runs (record u { target = all; done = u.done + took; last = left == 0 }) d)
  last_turns steps.Last took left turn e =
      let is = if_some _ _ turn e in (
        refl,
        equal took (min 64 (all - u.done)) (and_left (took == min 64 (all - u.done)) _ is.0),
        is.1,
      )
  last_turns steps.Unload took left turn e = absurd (cc (e))
  last_turns steps.Reload took left turn e = absurd (cc (e))
  last_turns steps.Sort took left turn e = absurd (cc (e))
  last_turns steps.Build took left turn e = absurd (cc (e))
  last_turns steps.Log took left turn e = absurd (cc (e))
  last_turns (steps.Wait asked) took left turn e = absurd
      (never (drain_verdict u.options u.asked u.failed blocker answer.now answer.estimate) e)
    where
      never : (v : DrainVerdict)
          → wait_turn all answer u d asked v (events.Last took left) ≡ Some turn → ⊥
      never (waits.Wait session) e = cc (e)
      never waits.Granted e = cc (e)
      never waits.GiveUp e = cc (e)
      never (waits.Stop reason) e = cc (e)
  last_turns (steps.Write granted) took left turn e = absurd (cc (e))
  last_turns steps.Switch took left turn e = absurd (cc (e))
  last_turns steps.End took left turn e = absurd (cc (e))

  -- an event of a step that waits for the drain
  abbrev WaitsFor : Step → Turn → Turn → Type 0
  WaitsFor step turn is = (asked : DrainFor) × (step ≡ steps.Wait asked) × (turn ≡ is)

  pub back_turns : (step : Step) (count : ℕ) (turn : Turn)
      → turn_at step all blocker answer u d (events.GiveUp count) ≡ Some turn
      → WaitsFor step turn (Runs (give_up all answer.now u) drains.Free)
  back_turns steps.Unload count turn e = absurd (cc (e))
  back_turns steps.Reload count turn e = absurd (cc (e))
  back_turns steps.Sort count turn e = absurd (cc (e))
  back_turns steps.Build count turn e = absurd (cc (e))
  back_turns steps.Log count turn e = absurd (cc (e))
  back_turns (steps.Wait asked) count turn e =
      by_verdict (drain_verdict u.options u.asked u.failed blocker answer.now answer.estimate) e
    where
      by_verdict : (v : DrainVerdict)
          → wait_turn all answer u d asked v (events.GiveUp count) ≡ Some turn
          → WaitsFor (steps.Wait asked) turn (Runs (give_up all answer.now u) drains.Free)
      by_verdict (waits.Wait session) e = absurd (cc (e))
      by_verdict waits.Granted e = absurd (cc (e))
      by_verdict waits.GiveUp e = (asked, refl, (if_some _ _ turn e).1)
      by_verdict (waits.Stop reason) e = absurd (cc (e))
  back_turns steps.Last count turn e = absurd (cc (e))
  back_turns (steps.Write granted) count turn e = absurd (cc (e))
  back_turns steps.Switch count turn e = absurd (cc (e))
  back_turns steps.End count turn e = absurd (cc (e))

  pub wait_turns : (step : Step) (session : Session) (turn : Turn)
      → turn_at step all blocker answer u d (events.Wait session) ≡ Some turn
      → WaitsFor step turn (Runs u d)
  wait_turns steps.Unload session turn e = absurd (cc (e))
  wait_turns steps.Reload session turn e = absurd (cc (e))
  wait_turns steps.Sort session turn e = absurd (cc (e))
  wait_turns steps.Build session turn e = absurd (cc (e))
  wait_turns steps.Log session turn e = absurd (cc (e))
  wait_turns (steps.Wait asked) session turn e =
      by_verdict (drain_verdict u.options u.asked u.failed blocker answer.now answer.estimate) e
    where
      by_verdict : (v : DrainVerdict)
          → wait_turn all answer u d asked v (events.Wait session) ≡ Some turn
          → WaitsFor (steps.Wait asked) turn (Runs u d)
      by_verdict (waits.Wait other) e = (asked, refl, (if_some _ _ turn e).1)
      by_verdict waits.Granted e = absurd (cc (e))
      by_verdict waits.GiveUp e = absurd (cc (e))
      by_verdict (waits.Stop reason) e = absurd (cc (e))
  wait_turns steps.Last session turn e = absurd (cc (e))
  wait_turns (steps.Write granted) session turn e = absurd (cc (e))
  wait_turns steps.Switch session turn e = absurd (cc (e))
  wait_turns steps.End session turn e = absurd (cc (e))

  pub grant_turns : (step : Step) (named : DrainFor) (turn : Turn)
      → turn_at step all blocker answer u d (events.Granted named) ≡ Some turn
      → (asked : DrainFor) × (step ≡ steps.Wait asked) × (turn ≡ Runs u (drains.Granted asked))
  grant_turns steps.Unload named turn e = absurd (cc (e))
  grant_turns steps.Reload named turn e = absurd (cc (e))
  grant_turns steps.Sort named turn e = absurd (cc (e))
  grant_turns steps.Build named turn e = absurd (cc (e))
  grant_turns steps.Log named turn e = absurd (cc (e))
  grant_turns (steps.Wait asked) named turn e =
      by_verdict (drain_verdict u.options u.asked u.failed blocker answer.now answer.estimate) e
    where
      by_verdict : (v : DrainVerdict)
          → wait_turn all answer u d asked v (events.Granted named) ≡ Some turn
          → (given : DrainFor) × (steps.Wait asked ≡ steps.Wait given)
          × (turn ≡ Runs u (drains.Granted given))
      by_verdict (waits.Wait other) e = absurd (cc (e))
      by_verdict waits.Granted e = (asked, refl, (if_some _ _ turn e).1)
      by_verdict waits.GiveUp e = absurd (cc (e))
      by_verdict (waits.Stop reason) e = absurd (cc (e))
  grant_turns steps.Last named turn e = absurd (cc (e))
  grant_turns (steps.Write granted) named turn e = absurd (cc (e))
  grant_turns steps.Switch named turn e = absurd (cc (e))
  grant_turns steps.End named turn e = absurd (cc (e))

  -- a stop ends the utility
  pub stop_turns : (step : Step) (reason : StopReason) (turn : Turn)
      → turn_at step all blocker answer u d (events.Stop reason) ≡ Some turn
      → (turn ≡ Stops) ⊎ (turn ≡ Falls)
  stop_turns steps.Unload reason turn e = inl (early_stops reason turn e)
  stop_turns steps.Reload reason turn e = inl (space_stops reason turn e)
  stop_turns steps.Sort reason turn e = inl (early_stops reason turn e)
  stop_turns steps.Build reason turn e = inl (early_stops reason turn e)
  stop_turns steps.Log reason turn e = inl (space_stops reason turn e)
  stop_turns (steps.Wait asked) reason turn e =
      inl
      (by_verdict (drain_verdict u.options u.asked u.failed blocker answer.now answer.estimate) e)
    where
      by_reason : (b : Bool)
          → (if b then Some Stops else early_stop (events.Stop reason)) ≡ Some turn
          → turn ≡ Stops
      by_reason true e = cc (e)
      by_reason false e = early_stops reason turn e

      by_verdict : (v : DrainVerdict)
          → wait_turn all answer u d asked v (events.Stop reason) ≡ Some turn → turn ≡ Stops
      by_verdict (waits.Wait other) e = early_stops reason turn e
      by_verdict waits.Granted e = early_stops reason turn e
      by_verdict waits.GiveUp e = early_stops reason turn e
      by_verdict (waits.Stop other) e = by_reason (same_reason reason other) e
  stop_turns steps.Last reason turn e = inl (space_stops reason turn e)
  stop_turns (steps.Write granted) reason turn e = inl (early_stops reason turn e)
  stop_turns steps.Switch reasons.Device turn e = inr (cc (e))
  stop_turns steps.Switch reasons.NoMemory turn e = inl (cc (e))
  stop_turns steps.Switch reason turn e = absurd (cc (e))
  stop_turns steps.End reason turn e = inl (early_stops reason turn e)

  -- nothing has ended before the switch
  pub ended_turns : (step : Step) (turn : Turn)
      → turn_at step all blocker answer u d events.Ended ≡ Some turn → step ≡ steps.End
  ended_turns steps.Unload turn e = absurd (cc (e))
  ended_turns steps.Reload turn e = absurd (cc (e))
  ended_turns steps.Sort turn e = absurd (cc (e))
  ended_turns steps.Build turn e = absurd (cc (e))
  ended_turns steps.Log turn e = absurd (cc (e))
  ended_turns (steps.Wait asked) turn e =
      absurd
      (never (drain_verdict u.options u.asked u.failed blocker answer.now answer.estimate) e)
    where
      never : (v : DrainVerdict)
          → wait_turn all answer u d asked v events.Ended ≡ Some turn → ⊥
      never (waits.Wait session) e = cc (e)
      never waits.Granted e = cc (e)
      never waits.GiveUp e = cc (e)
      never (waits.Stop reason) e = cc (e)
  ended_turns steps.Last turn e = absurd (cc (e))
  ended_turns (steps.Write granted) turn e = absurd (cc (e))
  ended_turns steps.Switch turn e = absurd (cc (e))
  ended_turns steps.End turn e = refl
