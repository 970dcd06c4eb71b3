-- What a grant is made of.
use Rattle.std.proofs.Common.{◌≡◌, ◌+◌, ℕ, Bool, true, false, not, Option, Some, None, nat_lt}
use Rattle.std.proofs.Common.{nat_le, if◌then◌else◌, refl, sym, ap}
use Rattle.rg_base.specs.declared.control.Answer.{Answer}
use Rattle.rg_base.specs.declared.control.Command.{Command}
use Rattle.rg_base.specs.declared.control.Command.TheVariants as commands
use Rattle.rg_base.specs.declared.options.DrainFor.{DrainFor}
use Rattle.rg_base.specs.declared.options.DrainFor.TheVariants as what
use Rattle.rg_base.specs.declared.options.DrainState.{DrainState}
use Rattle.rg_base.specs.declared.options.DrainState.TheVariants as drains
use Rattle.rg_base.specs.declared.options.Options.{Options}
use Rattle.rg_base.specs.declared.session.Session.{Session}
use Rattle.rg_base.specs.declared.step.Step.TheVariants as steps
use Rattle.rg_base.specs.declared.verdict.DrainVerdict.{DrainVerdict}
use Rattle.rg_base.specs.declared.verdict.DrainVerdict.TheVariants as waits
use Rattle.rg_base.specs.declared.verdict.StopReason.TheVariants as reasons
use Rattle.rg_model.specs.Same.{same_drain}
use Rattle.rg_model.specs.State.{Utility}
use Rattle.rg_model.specs.Turn.{Turn, Runs, Switches, Stops, Falls, alter, end_turn, is_term}
use Rattle.rg_model.specs.Turn.{step_by_drain, step_of, term_turn, turn_at, turn_if, turn_of}
use Rattle.rg_model.specs.Turn.{wait_turn}
use Rattle.rg_model.specs.Verdict.{drain_verdict, is_late, retry_verdict, wait_verdict}
use Rattle.rg_stmt.specs.declared.event.Event.{Event}
use Rattle.rg_stmt.specs.declared.event.Event.TheVariants as events
use Rattle.rg_laws_utility.proofs.CourseLemmas.Phases.{IsBuilt}
use Rattle.rg_laws_utility.proofs.CourseLemmas.Steps.{same_asked}

-- the drain was asked for this, and nobody is in its way; what is left of the utility
pub record IsGrant (u v : Utility) (d : DrainFor) (drain : DrainState) (blocker : Option Session)
    (later : DrainState) : Type 0 where
  pub asked : drain ≡ drains.Asked d
  pub nobody : blocker ≡ None
  pub granted : later ≡ drains.Granted d
  pub built : IsBuilt v
  pub unswitched : v.switched ≡ false
  pub last : v.last ≡ u.last
  pub done : v.done ≡ u.done

module _ (u : Utility) (d : DrainFor) (drain : DrainState) (blocker : Option Session) where
  abbrev pub GrantIf : Option Turn → Type 0
  GrantIf None = Unit {0}
  GrantIf (Some (Runs v later)) = IsGrant u v d drain blocker later
  GrantIf (Some (Switches copy sides v)) = ⊥
  GrantIf (Some Stops) = ⊥
  GrantIf (Some Falls) = ⊥

-- a verdict that grants names nobody
pub nobody_named : (options : Options) (asked failed : ℕ) (blocker : Option Session)
    (now estimate : ℕ)
    → drain_verdict options asked failed blocker now estimate ≡ waits.Granted → blocker ≡ None
nobody_named options asked failed blocker now estimate e =
    go (is_late options.deadline now estimate) blocker e
  where
    retry : (b : Bool) → (if b then waits.Stop reasons.Drain else waits.GiveUp) ≡ waits.Granted → ⊥
    retry true e = absurd (cc e)
    retry false e = absurd (cc e)

    waited : (session : Session) (b : Bool)
        → (if b then retry_verdict options failed else waits.Wait session) ≡ waits.Granted → ⊥
    waited session true e = retry (nat_lt options.retry (failed + 1)) e
    waited session false e = absurd (cc e)

    go : (b : Bool) (blocker : Option Session)
        → (if b then waits.Stop reasons.Deadline else wait_verdict options asked failed blocker now)
        ≡ waits.Granted
        → blocker ≡ None
    go true blocker e = absurd (cc e)
    go false None e = refl
    go false (Some session) e = absurd (waited session (nat_le (asked + options.wait) now) e)

module _ (all : ℕ) (blocker : Option Session) (answer : Answer) (d : DrainFor) where
  abbrev granted : Event
  granted = events.Granted d

  module _ (u v : Utility) (built : IsBuilt v) (unswitched : v.switched ≡ false)
      (last : v.last ≡ u.last) (done : v.done ≡ u.done) where
    waited_grants : (asked : DrainFor) (verdict : DrainVerdict)
        → drain_verdict v.options v.asked v.failed blocker answer.now answer.estimate ≡ verdict
        → GrantIf u d (drains.Asked asked) blocker
        (wait_turn all answer v (drains.Asked asked) asked verdict granted)
    waited_grants asked (waits.Wait session) e = tt
    waited_grants asked waits.GiveUp e = tt
    waited_grants asked (waits.Stop reason) e = tt
    waited_grants asked waits.Granted e = go (same_drain d asked) refl
      where
        go : (b : Bool) → same_drain d asked ≡ b
            → GrantIf u d (drains.Asked asked) blocker (turn_if b (Runs v (drains.Granted asked)))
        go false is = tt
        go true is =
            let same : d ≡ asked = same_asked d asked is in
            record {
              asked = ap drains.Asked (sym same);
              nobody = nobody_named v.options v.asked v.failed blocker answer.now answer.estimate e;
              granted = ap drains.Granted (sym same);
              built = built;
              unswitched = unswitched;
              last = last;
              done = done;
            }

    under : (granted_for : DrainFor) (a b : Bool)
        → GrantIf u d (drains.Granted granted_for) blocker
        (turn_at
        (if not a then steps.Last else (if not b then steps.Write granted_for else steps.Switch))
        all blocker answer v (drains.Granted granted_for) granted)
    under granted_for false b = tt
    under granted_for true false = tt
    under granted_for true true = tt

    drain_grants : (drain : DrainState)
        → GrantIf u d drain blocker
        (turn_at (step_by_drain v drain) all blocker answer v drain granted)
    drain_grants drains.Free = tt
    drain_grants (drains.Asked asked) = waited_grants asked
        (drain_verdict v.options v.asked v.failed blocker answer.now answer.estimate) refl
    drain_grants (drains.Granted granted_for) = under granted_for v.last v.written

  step_grants : (u v : Utility) (drain : DrainState) → v.switched ≡ false → v.last ≡ u.last
      → v.done ≡ u.done
      → GrantIf u d drain blocker (turn_at (step_of v drain) all blocker answer v drain granted)
  step_grants u v drain unswitched last done = go (nat_lt v.copied v.pages)
      (nat_lt v.reloaded v.unloaded) (nat_lt v.sorted 3) (nat_lt v.built 3) refl refl refl refl
    where
      go : (a b c e : Bool) → nat_lt v.copied v.pages ≡ a → nat_lt v.reloaded v.unloaded ≡ b
          → nat_lt v.sorted 3 ≡ c → nat_lt v.built 3 ≡ e
          → GrantIf u d drain blocker
          (turn_at
          (if a then steps.Unload else (if b then steps.Reload
          else (if c then steps.Sort else (if e then steps.Build else step_by_drain v drain)))) all
          blocker answer v drain granted)
      go true b c e p q r s = tt
      go false true c e p q r s = tt
      go false false true e p q r s = tt
      go false false false true p q r s = tt
      go false false false false p q r s = drain_grants u v
          (record { copied = p; reloaded = q; sorted = r; built = s }) unswitched last done drain

  altered : (u : Utility) (command : Command) (drain : DrainState) → u.switched ≡ false
      → GrantIf u d drain blocker
      (turn_at (step_of (alter u command) drain) all blocker answer (alter u command) drain granted)
  altered u (commands.Alter a) drain unswitched =
      step_grants u (alter u (commands.Alter a)) drain unswitched refl refl
  altered u command drain unswitched = step_grants u u drain unswitched refl refl

  -- where GRANTED is the utility's next event, the drain was asked and nobody is in its way
  pub turn_grants : (u : Utility) (drain : DrainState)
      → GrantIf u d drain blocker (turn_of all blocker answer u drain granted)
  turn_grants u drain = by_switched u.switched refl
    where
      by_term : (b : Bool) → u.switched ≡ false
          → GrantIf u d drain blocker
          (if b then term_turn granted else turn_at (step_of (alter u answer.command) drain) all
          blocker answer (alter u answer.command) drain granted)
      by_term true e = tt
      by_term false e = altered u answer.command drain e

      by_switched : (b : Bool) → u.switched ≡ b
          → GrantIf u d drain blocker
          (if b then end_turn granted else (if is_term answer.command then term_turn granted
          else turn_at (step_of (alter u answer.command) drain) all blocker answer
          (alter u answer.command) drain granted))
      by_switched true e = tt
      by_switched false e = by_term (is_term answer.command) e
