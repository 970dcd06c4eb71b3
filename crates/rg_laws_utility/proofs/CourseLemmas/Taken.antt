-- What a step tells of the changes that it takes is what the numbers that it leaves show.
use Rattle.std.proofs.Common.{◌≡◌, ◌+◌, ◌-◌, ◌==◌, ◌&&◌, ℕ, Bool, true, false, not, Option, Some}
use Rattle.std.proofs.Common.{None, IfSome, nat_lt, nat_le, min, if◌then◌else◌, refl, ◌∙◌, ap}
use Rattle.rg_base.specs.declared.control.Answer.{Answer}
use Rattle.rg_base.specs.declared.control.Command.{Command}
use Rattle.rg_base.specs.declared.control.Command.TheVariants as commands
use Rattle.rg_base.specs.declared.options.DrainFor.{DrainFor}
use Rattle.rg_base.specs.declared.options.DrainFor.TheVariants as what
use Rattle.rg_base.specs.declared.options.DrainState.{DrainState}
use Rattle.rg_base.specs.declared.options.DrainState.TheVariants as drains
use Rattle.rg_base.specs.declared.session.Session.{Session}
use Rattle.rg_base.specs.declared.step.Step.{Step}
use Rattle.rg_base.specs.declared.step.Step.TheVariants as steps
use Rattle.rg_base.specs.declared.verdict.DrainVerdict.{DrainVerdict}
use Rattle.rg_base.specs.declared.verdict.DrainVerdict.TheVariants as waits
use Rattle.rg_base.specs.declared.verdict.StopReason.TheVariants as reasons
use Rattle.rg_base.specs.declared.verdict.Verdict.{Verdict}
use Rattle.rg_base.specs.declared.verdict.Verdict.TheVariants as verdicts
use Rattle.rg_stmt.specs.declared.event.Event.{Event}
use Rattle.rg_stmt.specs.declared.event.Event.TheVariants as events
use Rattle.rg_model.specs.Packed.{page_at}
use Rattle.rg_model.specs.Same.{same_drain, same_reason, same_verdict, same_which}
use Rattle.rg_model.specs.State.{Utility}
use Rattle.rg_model.specs.Turn.{Turn, Runs, Switches, Stops, Falls, alter, build_turn, early_stop}
use Rattle.rg_model.specs.Turn.{end_turn, is_term, last_turn, log_turn, log_verdict, nth_which}
use Rattle.rg_model.specs.Turn.{reload_turn, sort_turn, space_stop, step_by_drain, step_of}
use Rattle.rg_model.specs.Turn.{switch_turn, term_turn, turn_at, turn_if, turn_of, unload_turn}
use Rattle.rg_model.specs.Turn.{verdict_turn, wait_turn, write_turn}
use Rattle.rg_model.specs.Verdict.{drain_verdict, is_slow}
use Rattle.rg_laws_utility.specs.Course.Switching.{over_after, taken_after}

-- as many changes are taken, and LAST is over, as the event tells
abbrev pub Shows : Utility → Event → Utility → Type 0
Shows u event v = (v.done ≡ taken_after u.done event) × (v.last ≡ over_after u.last event)

-- so do the numbers that a turn leaves
abbrev pub ShowsTaken : Utility → Event → Turn → Type 0
ShowsTaken u event (Runs v later) = Shows u event v
ShowsTaken u event (Switches other sides v) = Shows u event v
ShowsTaken u event Stops = Unit {0}
ShowsTaken u event Falls = Unit {0}

module _ (u : Utility) (event : Event) where
  abbrev LeadsIf : Option Turn → Type 0
  LeadsIf turn = IfSome turn (ShowsTaken u event)

  leads_if : (b : Bool) (turn : Turn) → ShowsTaken u event turn → LeadsIf (turn_if b turn)
  leads_if true turn leads = leads
  leads_if false turn leads = tt

early_leads : (u : Utility) (event : Event) → LeadsIf u event (early_stop event)
early_leads u (events.Stop reasons.Device) = tt
early_leads u (events.Stop reasons.NoMemory) = tt
early_leads u event = tt

space_leads : (u : Utility) (event : Event) → LeadsIf u event (space_stop event)
space_leads u (events.Stop reasons.NoSpace) = tt
space_leads u event = early_leads u event

-- ---- by the stage

module _ (u : Utility) where
  unload_leads : (drain : DrainState) (event : Event) → LeadsIf u event (unload_turn u drain event)
  unload_leads drain (events.Unload page rows) =
      leads_if u (events.Unload page rows) (page == u.copied + 1 && nat_le rows 225) _ (refl, refl)
  unload_leads drain event = early_leads u event

  reload_leads : (drain : DrainState) (event : Event) → LeadsIf u event (reload_turn u drain event)
  reload_leads drain (events.Reload page rows) =
      leads_if u (events.Reload page rows)
      (page == page_at u.options.freepage (u.filled + 1)
      && (nat_le 1 rows && nat_le rows (u.unloaded - u.reloaded))) _ (refl, refl)
  reload_leads drain event = space_leads u event

  sort_leads : (drain : DrainState) (event : Event) → LeadsIf u event (sort_turn u drain event)
  sort_leads drain (events.Sort which) =
      leads_if u (events.Sort which) (same_which which (nth_which u.sorted)) _ (refl, refl)
  sort_leads drain event = early_leads u event

  build_leads : (all : ℕ) (drain : DrainState) (event : Event)
      → LeadsIf u event (build_turn all u drain event)
  build_leads all drain (events.Build which) =
      leads_if u (events.Build which) (same_which which (nth_which u.built)) _ (go (u.built == 2))
    where
      go : (b : Bool)
          → Shows u (events.Build which)
          (if b then record u {
            built = 3;
            iteration = u.iteration + 1;
            target = all;
            size = all - u.done;
          } else record u { built = u.built + 1 })
      go true = (refl, refl)
      go false = (refl, refl)
  build_leads all drain event = early_leads u event

  verdict_leads : (all now : ℕ) (slow : Bool) (next : Utility) (drain : DrainState)
      (verdict : Verdict) (event : Event)
      → Shows u event next → ShowsTaken u event (verdict_turn all now slow next drain verdict)
  verdict_leads all now slow next drain verdicts.More event at = at
  verdict_leads all now true next drain verdicts.Next event at = at
  verdict_leads all now false next drain verdicts.Next event at = at
  verdict_leads all now slow next drain verdicts.Message event at = at
  verdict_leads all now slow next drain (verdicts.Drain asked) event at = at
  verdict_leads all now slow next drain (verdicts.Stop reason) event at = tt

  log_leads : (all : ℕ) (answer : Answer) (drain : DrainState) (event : Event)
      → LeadsIf u event (log_turn all answer u drain event)
  log_leads all answer drain (events.Log iteration took left verdict) =
      let next : Utility = record u { done = u.done + took } in
      leads_if u (events.Log iteration took left verdict)
      (iteration == u.iteration
      && (took == min 64 (u.target - u.done)
      && (left == all - next.done && same_verdict verdict (log_verdict left answer next)))) _
      (verdict_leads all answer.now (is_slow left u.size) next drain verdict
      (events.Log iteration took left verdict) (refl, refl))
  log_leads all answer drain event = space_leads u event

  wait_leads : (all : ℕ) (answer : Answer) (drain : DrainState) (asked : DrainFor)
      (verdict : DrainVerdict) (event : Event)
      → LeadsIf u event (wait_turn all answer u drain asked verdict event)
  wait_leads all answer drain asked (waits.Wait session) (events.Wait named) =
      leads_if u (events.Wait named) (named.0 == session.0) _ (refl, refl)
  wait_leads all answer drain asked waits.Granted (events.Granted named) =
      leads_if u (events.Granted named) (same_drain named asked) _ (refl, refl)
  wait_leads all answer drain asked waits.GiveUp (events.GiveUp count) =
      leads_if u (events.GiveUp count) (count == u.failed + 1) _ (refl, refl)
  wait_leads all answer drain asked (waits.Stop reason) (events.Stop named) =
      go (same_reason named reason)
    where
      go : (b : Bool)
          → LeadsIf u (events.Stop named) (if b then Some Stops else early_stop (events.Stop named))
      go true = tt
      go false = early_leads u (events.Stop named)
  wait_leads all answer drain asked verdict event = early_leads u event

  last_leads : (all : ℕ) (drain : DrainState) (event : Event)
      → LeadsIf u event (last_turn all u drain event)
  last_leads all drain (events.Last took left) = leads_if u (events.Last took left)
      (took == min 64 (all - u.done) && left == all - (u.done + took)) _ (refl, refl)
  last_leads all drain event = space_leads u event

  write_leads : (answer : Answer) (drain : DrainState) (granted : DrainFor) (event : Event)
      → LeadsIf u event (write_turn answer u drain granted event)
  write_leads answer drain what.Writers (events.Written pages) = (refl, refl)
  write_leads answer drain what.All (events.Written pages) = (refl, refl)
  write_leads answer drain granted event = early_leads u event

  switch_leads : (event : Event) → LeadsIf u event (switch_turn u event)
  switch_leads (events.Switched other sides) = (refl, refl)
  switch_leads (events.Stop reasons.Device) = tt
  switch_leads event = early_leads u event

  end_leads : (event : Event) → LeadsIf u event (end_turn event)
  end_leads events.Ended = tt
  end_leads event = early_leads u event

module _ (all : ℕ) (blocker : Option Session) (answer : Answer) (event : Event) where
  abbrev TurnAt : Utility → Step → DrainState → Type 0
  TurnAt u step drain = LeadsIf u event (turn_at step all blocker answer u drain event)

  under_leads : (u : Utility) (drain : DrainState) (granted : DrainFor)
      → TurnAt u
      (if not u.last then steps.Last
      else (if not u.written then steps.Write granted else steps.Switch)) drain
  under_leads u drain granted = go u.last u.written
    where
      go : (a b : Bool)
          → TurnAt u
          (if not a then steps.Last else (if not b then steps.Write granted else steps.Switch))
          drain
      go false b = last_leads u all drain event
      go true false = write_leads u answer drain granted event
      go true true = switch_leads u event

  drain_leads : (u : Utility) (drain now : DrainState) → TurnAt u (step_by_drain u drain) now
  drain_leads u drains.Free now = log_leads u all answer now event
  drain_leads u (drains.Asked asked) now = wait_leads u all answer now asked
      (drain_verdict u.options u.asked u.failed blocker answer.now answer.estimate) event
  drain_leads u (drains.Granted granted) now = under_leads u now granted

  step_leads : (u : Utility) (drain : DrainState) → TurnAt u (step_of u drain) drain
  step_leads u drain = go (nat_lt u.copied u.pages) (nat_lt u.reloaded u.unloaded)
      (nat_lt u.sorted 3) (nat_lt u.built 3)
    where
      go : (a b c d : Bool)
          → TurnAt u
          (if a then steps.Unload else (if b then steps.Reload
          else (if c then steps.Sort else (if d then steps.Build else step_by_drain u drain))))
          drain
      go true b c d = unload_leads u drain event
      go false true c d = reload_leads u drain event
      go false false true d = sort_leads u drain event
      go false false false true = build_leads u all drain event
      go false false false false = drain_leads u drain drain

  altered : (u : Utility) (command : Command)
      → ((alter u command).done ≡ u.done) × ((alter u command).last ≡ u.last)
  altered u (commands.Alter a) = (refl, refl)
  altered u command = (refl, refl)

  from_altered : (u : Utility) (command : Command) (v : Utility) → Shows (alter u command) event v
      → Shows u event v
  from_altered u command v shows =
      let same = altered u command in (
        shows.0 ∙ ap (λ (n : ℕ). taken_after n event) same.0,
        shows.1 ∙ ap (λ (b : Bool). over_after b event) same.1,
      )

  turn_altered : (u : Utility) (command : Command) (turn : Option Turn)
      → LeadsIf (alter u command) event turn → LeadsIf u event turn
  turn_altered u command None leads = tt
  turn_altered u command (Some (Runs v later)) leads = from_altered u command v leads
  turn_altered u command (Some (Switches other sides v)) leads = from_altered u command v leads
  turn_altered u command (Some Stops) leads = tt
  turn_altered u command (Some Falls) leads = tt

  pub turn_leads : (u : Utility) (drain : DrainState)
      → LeadsIf u event (turn_of all blocker answer u drain event)
  turn_leads u drain = by_switched u.switched
    where
      v : Utility
      v = alter u answer.command

      term_leads : (event : Event) → LeadsIf u event (term_turn event)
      term_leads (events.Stop reasons.Term) = tt
      term_leads (events.Stop reasons.NoMemory) = tt
      term_leads event = tt

      by_term : (b : Bool)
          → LeadsIf u event
          (if b then term_turn event
          else turn_at (step_of v drain) all blocker answer v drain event)
      by_term true = term_leads event
      by_term false = turn_altered u answer.command
          (turn_at (step_of v drain) all blocker answer v drain event) (step_leads v drain)

      by_switched : (b : Bool)
          → LeadsIf u event
          (if b then end_turn event else (if is_term answer.command then term_turn event
          else turn_at (step_of v drain) all blocker answer v drain event))
      by_switched true = end_leads u event
      by_switched false = by_term (is_term answer.command)
