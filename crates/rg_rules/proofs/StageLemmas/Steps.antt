-- An event that has a turn is a step's: starts, refusals of a start and idle steps have none.
use Rattle.std.proofs.Common.{◌≡◌, ℕ, Bool, true, false, Option, Some, None, refl}
use Rattle.std.proofs.Common.{if◌then◌else◌}
use Rattle.rg_base.specs.declared.control.Answer.{Answer}
use Rattle.rg_base.specs.declared.options.DrainFor.{DrainFor}
use Rattle.rg_base.specs.declared.options.DrainState.{DrainState}
use Rattle.rg_base.specs.declared.session.Session.{Session}
use Rattle.rg_base.specs.declared.step.Step.{Step}
use Rattle.rg_base.specs.declared.step.Step.TheVariants as steps
use Rattle.rg_base.specs.declared.verdict.DrainVerdict.{DrainVerdict}
use Rattle.rg_base.specs.declared.verdict.DrainVerdict.TheVariants as waits
use Rattle.rg_stmt.specs.declared.event.Event.{Event}
use Rattle.rg_stmt.specs.declared.event.Event.TheVariants as events
use Rattle.rg_model.specs.State.{Utility}
use Rattle.rg_model.specs.Turn.{Turn, alter, build_turn, early_stop, end_turn, is_term, last_turn}
use Rattle.rg_model.specs.Turn.{log_turn, reload_turn, sort_turn, space_stop, step_of, switch_turn}
use Rattle.rg_model.specs.Turn.{term_turn, turn_at, turn_of, unload_turn, wait_turn, write_turn}

-- what stands in a trace for the utility beside its steps
abbrev pub is_step : Event → Bool
is_step (events.Started options copy pages) = false
is_step events.Active = false
is_step (events.StartLogFull need left) = false
is_step events.StartDown = false
is_step events.StartNoMemory = false
is_step events.Idle = false
is_step events.StepDown = false
is_step event = true

early_none : (event : Event) → is_step event ≡ false → early_stop event ≡ None
early_none (events.Stop reason) n = absurd (cc (n))
early_none event n = refl

space_none : (event : Event) → is_step event ≡ false → space_stop event ≡ None
space_none (events.Stop reason) n = absurd (cc (n))
space_none event n = refl

term_none : (event : Event) → is_step event ≡ false → term_turn event ≡ None
term_none (events.Stop reason) n = absurd (cc (n))
term_none event n = refl

end_none : (event : Event) → is_step event ≡ false → end_turn event ≡ None
end_none events.Ended n = absurd (cc (n))
end_none event n = early_none event n

wait_none :
    (all : ℕ) (answer : Answer) (u : Utility) (d : DrainState) (asked : DrainFor)
    (verdict : DrainVerdict) (event : Event)
    → is_step event ≡ false → wait_turn all answer u d asked verdict event ≡ None
wait_none all answer u d asked (waits.Wait session) (events.Wait named) n = absurd (cc (n))
wait_none all answer u d asked waits.Granted (events.Granted named) n = absurd (cc (n))
wait_none all answer u d asked waits.GiveUp (events.GiveUp count) n = absurd (cc (n))
wait_none all answer u d asked (waits.Stop reason) (events.Stop named) n = absurd (cc (n))
wait_none all answer u d asked verdict event n = early_none event n

module _ (all : ℕ) (answer : Answer) (u : Utility) (d : DrainState) where
  unload_none : (event : Event) → is_step event ≡ false → unload_turn u d event ≡ None
  unload_none (events.Unload page rows) n = absurd (cc (n))
  unload_none event n = early_none event n

  reload_none : (event : Event) → is_step event ≡ false → reload_turn u d event ≡ None
  reload_none (events.Reload page rows) n = absurd (cc (n))
  reload_none event n = space_none event n

  sort_none : (event : Event) → is_step event ≡ false → sort_turn u d event ≡ None
  sort_none (events.Sort which) n = absurd (cc (n))
  sort_none event n = early_none event n

  build_none : (event : Event) → is_step event ≡ false → build_turn all u d event ≡ None
  build_none (events.Build which) n = absurd (cc (n))
  build_none event n = early_none event n

  log_none : (event : Event) → is_step event ≡ false → log_turn all answer u d event ≡ None
  log_none (events.Log iteration took left verdict) n = absurd (cc (n))
  log_none event n = space_none event n

  last_none : (event : Event) → is_step event ≡ false → last_turn all u d event ≡ None
  last_none (events.Last took left) n = absurd (cc (n))
  last_none event n = space_none event n

  write_none :
      (granted : DrainFor) (event : Event)
      → is_step event ≡ false → write_turn answer u d granted event ≡ None
  write_none granted (events.Written pages) n = absurd (cc (n))
  write_none granted event n = early_none event n

  switch_none : (event : Event) → is_step event ≡ false → switch_turn u event ≡ None
  switch_none (events.Switched copy sides) n = absurd (cc (n))
  switch_none (events.Stop reason) n = absurd (cc (n))
  switch_none event n = early_none event n

  step_none :
      (step : Step) (blocker : Option Session) (event : Event)
      → is_step event ≡ false → turn_at step all blocker answer u d event ≡ None
  step_none steps.Unload blocker event n = unload_none event n
  step_none steps.Reload blocker event n = reload_none event n
  step_none steps.Sort blocker event n = sort_none event n
  step_none steps.Build blocker event n = build_none event n
  step_none steps.Log blocker event n = log_none event n
  step_none (steps.Wait asked) blocker event n = wait_none all answer u d asked _ event n
  step_none steps.Last blocker event n = last_none event n
  step_none (steps.Write granted) blocker event n = write_none granted event n
  step_none steps.Switch blocker event n = switch_none event n
  step_none steps.End blocker event n = end_none event n

no_turn :
    (all : ℕ) (blocker : Option Session) (answer : Answer) (u : Utility) (d : DrainState)
    (event : Event)
    → is_step event ≡ false → turn_of all blocker answer u d event ≡ None
no_turn all blocker answer u d event n = by_tests u.switched (is_term answer.command)
  where
    by_tests :
        (s t : Bool)
        → (if s then end_turn event else (if t then term_turn event
        else turn_at (step_of (alter u answer.command) d) all blocker answer
        (alter u answer.command) d event)) ≡ None
    by_tests true t = end_none event n
    by_tests false true = term_none event n
    by_tests false false =
        step_none all answer (alter u answer.command) d (step_of (alter u answer.command) d)
        blocker event n

pub has_step :
    (all : ℕ) (blocker : Option Session) (answer : Answer) (u : Utility) (d : DrainState)
    (event : Event) (turn : Turn)
    → turn_of all blocker answer u d event ≡ Some turn → is_step event ≡ true
has_step all blocker answer u d event turn e = by_test (is_step event) refl
  where
    by_test : (b : Bool) → is_step event ≡ b → is_step event ≡ true
    by_test true s = s
    by_test false s = absurd (cc (e, no_turn all blocker answer u d event s))
