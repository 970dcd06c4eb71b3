-- What a step is made under, and where its turn leads.
--
-- 1. The step that the numbers and the drain name tells something of both (`IsAt`).
-- 2. The turn of a step that is no switch goes on or stops. A fact of whether the new copy is
--    written, whether the copies are switched, and of the drain holds after it, if the fact holds
--    after each way in which that step goes on (`Needs`).
use Rattle.std.proofs.Common.{◌≡◌, ◌+◌, ◌==◌, if◌then◌else◌, not, nat_lt, ℕ, Bool, true, false}
use Rattle.std.proofs.Common.{Option, Some, None, refl}
use Rattle.rg_base.specs.declared.control.Answer.{Answer}
use Rattle.rg_base.specs.declared.control.Command.{Command}
use Rattle.rg_base.specs.declared.control.Command.TheVariants as commands
use Rattle.rg_base.specs.declared.options.DrainFor.{DrainFor}
use Rattle.rg_base.specs.declared.options.DrainFor.TheVariants as what
use Rattle.rg_base.specs.declared.options.DrainState.{DrainState}
use Rattle.rg_base.specs.declared.options.DrainState.TheVariants as drains
use Rattle.rg_base.specs.declared.session.Session.{Session}
use Rattle.rg_base.specs.declared.step.Step.{Step}
use Rattle.rg_base.specs.declared.step.Step.TheVariants as steps
use Rattle.rg_base.specs.declared.verdict.DrainVerdict.{DrainVerdict}
use Rattle.rg_base.specs.declared.verdict.DrainVerdict.TheVariants as waits
use Rattle.rg_base.specs.declared.verdict.StopReason.{StopReason}
use Rattle.rg_base.specs.declared.verdict.StopReason.TheVariants as reasons
use Rattle.rg_base.specs.declared.verdict.Verdict.{Verdict}
use Rattle.rg_base.specs.declared.verdict.Verdict.TheVariants as verdicts
use Rattle.rg_model.specs.Same.{same_reason}
use Rattle.rg_model.specs.State.{Utility}
use Rattle.rg_model.specs.Turn.{Turn, Runs, Switches, Stops, Falls, alter, build_turn, early_stop}
use Rattle.rg_model.specs.Turn.{end_turn, last_turn, log_turn, next_iteration, reload_turn}
use Rattle.rg_model.specs.Turn.{sort_turn, space_stop, step_by_drain, step_of, term_turn, turn_at}
use Rattle.rg_model.specs.Turn.{turn_if, unload_turn, verdict_turn, wait_turn, write_turn}
use Rattle.rg_model.specs.Verdict.{drain_verdict, is_slow}
use Rattle.rg_stmt.specs.declared.event.Event.{Event}
use Rattle.rg_stmt.specs.declared.event.Event.TheVariants as events

-- ---- the step

-- what holds of the numbers and the drain where they name this step
abbrev pub IsAt : Step → Utility → DrainState → Type 0
IsAt steps.Log u drain = drain ≡ drains.Free
IsAt (steps.Wait asked) u drain = drain ≡ drains.Asked asked
IsAt (steps.Write granted) u drain = drain ≡ drains.Granted granted
IsAt steps.Switch u drain =
    (u.written ≡ true) × ((granted : DrainFor) × (drain ≡ drains.Granted granted))
IsAt steps.End u drain = ⊥
IsAt step u drain = Unit {0}

pub step_at : (u : Utility) (drain : DrainState) → IsAt (step_of u drain) u drain
step_at u drain = go (nat_lt u.copied u.pages) (nat_lt u.reloaded u.unloaded) (nat_lt u.sorted 3)
    (nat_lt u.built 3)
  where
    under : (granted : DrainFor) (last written : Bool) → u.written ≡ written
        → IsAt
        (if not last then steps.Last
        else (if not written then steps.Write granted else steps.Switch)) u (drains.Granted granted)
    under granted false written e = tt
    under granted true false e = refl
    under granted true true e = (e, (granted, refl))

    by_drain : (drain : DrainState) → IsAt (step_by_drain u drain) u drain
    by_drain drains.Free = refl
    by_drain (drains.Asked asked) = refl
    by_drain (drains.Granted granted) = under granted u.last u.written refl

    go : (a b c d : Bool)
        → IsAt
        (if a then steps.Unload else (if b then steps.Reload
        else (if c then steps.Sort else (if d then steps.Build else step_by_drain u drain)))) u
        drain
    go true b c d = tt
    go false true c d = tt
    go false false true d = tt
    go false false false true = tt
    go false false false false = by_drain drain

-- ALTER changes options alone
pub alter_written : (u : Utility) (command : Command) → (alter u command).written ≡ u.written
alter_written u (commands.Alter a) = refl
alter_written u command = refl

pub alter_switched : (u : Utility) (command : Command) → (alter u command).switched ≡ u.switched
alter_switched u (commands.Alter a) = refl
alter_switched u command = refl

-- ---- where its turn leads

module _ (P : (written switched : Bool) → DrainState → Type 0) where
  -- the turn goes on, and the fact holds then; or it stops
  abbrev pub Leads : Turn → Type 0
  Leads (Runs v drain) = P v.written v.switched drain
  Leads (Switches copy sides v) = ⊥
  Leads Stops = Unit {0}
  Leads Falls = ⊥

  abbrev pub LeadsIf : Option Turn → Type 0
  LeadsIf None = Unit {0}
  LeadsIf (Some turn) = Leads turn

  -- the fact holds after each way in which the step goes on
  abbrev pub Needs : Step → Utility → DrainState → Type 0
  Needs steps.Log u drain = (later : DrainState) → P u.written u.switched later
  Needs (steps.Wait asked) u drain = P u.written u.switched drain
      × P u.written u.switched (drains.Granted asked) × P false u.switched drains.Free
  Needs (steps.Write what.Writers) u drain = P true u.switched (drains.Asked what.All)
  Needs (steps.Write what.All) u drain = P true u.switched drain
  Needs steps.Switch u drain = ⊥
  Needs steps.End u drain = Unit {0}
  Needs step u drain = P u.written u.switched drain

  leads_if : (b : Bool) (turn : Turn) → Leads turn → LeadsIf (turn_if b turn)
  leads_if true turn leads = leads
  leads_if false turn leads = tt

  early_leads : (event : Event) → LeadsIf (early_stop event)
  early_leads (events.Stop reasons.Device) = tt
  early_leads (events.Stop reasons.NoMemory) = tt
  early_leads event = tt

  space_leads : (event : Event) → LeadsIf (space_stop event)
  space_leads (events.Stop reasons.NoSpace) = tt
  space_leads event = early_leads event

  pub end_leads : (event : Event) → LeadsIf (end_turn event)
  end_leads events.Ended = tt
  end_leads event = early_leads event

  pub term_leads : (event : Event) → LeadsIf (term_turn event)
  term_leads (events.Stop reasons.Term) = tt
  term_leads (events.Stop reasons.NoMemory) = tt
  term_leads event = tt

  unload_leads : (u : Utility) (drain : DrainState) (event : Event) → P u.written u.switched drain
      → LeadsIf (unload_turn u drain event)
  unload_leads u drain (events.Unload page rows) p = leads_if _ _ p
  unload_leads u drain event p = early_leads event

  reload_leads : (u : Utility) (drain : DrainState) (event : Event) → P u.written u.switched drain
      → LeadsIf (reload_turn u drain event)
  reload_leads u drain (events.Reload page rows) p = leads_if _ _ p
  reload_leads u drain event p = space_leads event

  sort_leads : (u : Utility) (drain : DrainState) (event : Event) → P u.written u.switched drain
      → LeadsIf (sort_turn u drain event)
  sort_leads u drain (events.Sort which) p = leads_if _ _ p
  sort_leads u drain event p = early_leads event

  build_leads : (all : ℕ) (u : Utility) (drain : DrainState) (event : Event)
      → P u.written u.switched drain → LeadsIf (build_turn all u drain event)
  build_leads all u drain (events.Build which) p = leads_if _ _ (built (u.built == 2))
    where
      built : (b : Bool)
          → Leads
          (Runs
          (if b then next_iteration all (record u { built = 3 })
          else record u { built = u.built + 1 }) drain)
      built true = p
      built false = p
  build_leads all u drain event p = early_leads event

  verdict_leads : (all now : ℕ) (slow : Bool) (u : Utility) (drain : DrainState) (verdict : Verdict)
      → ((later : DrainState) → P u.written u.switched later)
      → Leads (verdict_turn all now slow u drain verdict)
  verdict_leads all now slow u drain verdicts.More p = p drain
  verdict_leads all now slow u drain verdicts.Next p = next slow
    where
      next : (b : Bool)
          → Leads (Runs (next_iteration all (if b then u else record u { message = None })) drain)
      next true = p drain
      next false = p drain
  verdict_leads all now slow u drain verdicts.Message p = p drain
  verdict_leads all now slow u drain (verdicts.Drain asked) p = p (drains.Asked asked)
  verdict_leads all now slow u drain (verdicts.Stop reason) p = tt

  log_leads : (all : ℕ) (answer : Answer) (u : Utility) (drain : DrainState) (event : Event)
      → ((later : DrainState) → P u.written u.switched later)
      → LeadsIf (log_turn all answer u drain event)
  log_leads all answer u drain (events.Log iteration took left verdict) p = leads_if _ _
      (verdict_leads all answer.now (is_slow left u.size) (record u { done = u.done + took }) drain
      verdict p)
  log_leads all answer u drain event p = space_leads event

  stop_leads : (b : Bool) (named : StopReason)
      → LeadsIf (if b then Some Stops else early_stop (events.Stop named))
  stop_leads true named = tt
  stop_leads false named = early_leads (events.Stop named)

  wait_leads : (all : ℕ) (answer : Answer) (u : Utility) (drain : DrainState) (asked : DrainFor)
      (verdict : DrainVerdict) (event : Event) → Needs (steps.Wait asked) u drain
      → LeadsIf (wait_turn all answer u drain asked verdict event)
  wait_leads all answer u drain asked (waits.Wait session) (events.Wait named) p = leads_if _ _ p.0
  wait_leads all answer u drain asked (waits.Wait session) event p = early_leads event
  wait_leads all answer u drain asked waits.Granted (events.Granted named) p = leads_if _ _ p.1
  wait_leads all answer u drain asked waits.Granted event p = early_leads event
  wait_leads all answer u drain asked waits.GiveUp (events.GiveUp count) p = leads_if _ _ p.2
  wait_leads all answer u drain asked waits.GiveUp event p = early_leads event
  wait_leads all answer u drain asked (waits.Stop reason) (events.Stop named) p =
      stop_leads (same_reason named reason) named
  wait_leads all answer u drain asked (waits.Stop reason) event p = early_leads event

  last_leads : (all : ℕ) (u : Utility) (drain : DrainState) (event : Event)
      → P u.written u.switched drain → LeadsIf (last_turn all u drain event)
  last_leads all u drain (events.Last took left) p = leads_if _ _ p
  last_leads all u drain event p = space_leads event

  write_leads :
      (answer : Answer) (u : Utility) (drain : DrainState) (granted : DrainFor) (event : Event)
      → Needs (steps.Write granted) u drain → LeadsIf (write_turn answer u drain granted event)
  write_leads answer u drain what.Writers (events.Written pages) p = p
  write_leads answer u drain what.All (events.Written pages) p = p
  write_leads answer u drain granted event p = early_leads event

  pub at_leads : (step : Step) (all : ℕ) (blocker : Option Session) (answer : Answer) (u : Utility)
      (drain : DrainState) (event : Event)
      → Needs step u drain → LeadsIf (turn_at step all blocker answer u drain event)
  at_leads steps.Unload all blocker answer u drain event p = unload_leads u drain event p
  at_leads steps.Reload all blocker answer u drain event p = reload_leads u drain event p
  at_leads steps.Sort all blocker answer u drain event p = sort_leads u drain event p
  at_leads steps.Build all blocker answer u drain event p = build_leads all u drain event p
  at_leads steps.Log all blocker answer u drain event p = log_leads all answer u drain event p
  at_leads (steps.Wait asked) all blocker answer u drain event p = wait_leads all answer u drain
      asked (drain_verdict u.options u.asked u.failed blocker answer.now answer.estimate) event p
  at_leads steps.Last all blocker answer u drain event p = last_leads all u drain event p
  at_leads (steps.Write granted) all blocker answer u drain event p =
      write_leads answer u drain granted event p
  at_leads steps.Switch all blocker answer u drain event p = absurd p
  at_leads steps.End all blocker answer u drain event p = end_leads event
