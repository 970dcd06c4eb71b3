-- What a step makes of the utility between a grant and the switch.
use Rattle.std.proofs.Common.{◌≡◌, ◌+◌, ◌-◌, ◌==◌, ℕ, Bool, true, false, not, Option, Some}
use Rattle.std.proofs.Common.{None, nat_lt, nat_le, min, if◌then◌else◌, refl, sym, ◌∙◌, ap, subst}
use Rattle.std.proofs.Common.{arith}
use Rattle.std.proofs.lemmas.Bool.Decides.{nat_tests}
use Rattle.std.proofs.lemmas.Bool.{and_parts, eqb-false, eqb-true}
use Rattle.rg_base.specs.declared.control.Answer.{Answer}
use Rattle.rg_base.specs.declared.control.Command.{Command}
use Rattle.rg_base.specs.declared.control.Command.TheVariants as commands
use Rattle.rg_base.specs.declared.options.DrainFor.{DrainFor}
use Rattle.rg_base.specs.declared.options.DrainFor.TheVariants as what
use Rattle.rg_base.specs.declared.options.DrainState.{DrainState}
use Rattle.rg_base.specs.declared.options.DrainState.TheVariants as drains
use Rattle.rg_base.specs.declared.session.Session.{Session}
use Rattle.rg_base.specs.declared.step.Step.{Step}
use Rattle.rg_base.specs.declared.step.Step.TheVariants as steps
use Rattle.rg_base.specs.declared.verdict.DrainVerdict.{DrainVerdict}
use Rattle.rg_base.specs.declared.verdict.DrainVerdict.TheVariants as waits
use Rattle.rg_base.specs.declared.verdict.StopReason.TheVariants as reasons
use Rattle.rg_model.specs.Same.{same_reason}
use Rattle.rg_model.specs.State.{Utility}
use Rattle.rg_model.specs.Turn.{Turn, Runs, Switches, Stops, Falls, alter, early_stop, end_turn}
use Rattle.rg_model.specs.Turn.{is_term, last_turn, space_stop, step_by_drain, step_of, switch_turn}
use Rattle.rg_model.specs.Turn.{term_turn, turn_at, turn_if, turn_of, wait_turn, write_turn}
use Rattle.rg_model.specs.Verdict.{drain_verdict}
use Rattle.rg_stmt.specs.declared.event.Event.{Event}
use Rattle.rg_stmt.specs.declared.event.Event.TheVariants as events
use Rattle.rg_laws_utility.specs.Course.Switching.{goes_on, last_count, lasts_for, loads}
use Rattle.rg_laws_utility.proofs.CourseLemmas.Phases.{IsBuilt}

-- how many LAST are still to come: by a drain that is granted, or none once they are made
pub data IsTurning (all : ℕ) (u : Utility) (drain : DrainState) (n : ℕ) : Type 0 where
  Takes : (d : DrainFor) → drain ≡ drains.Granted d → u.last ≡ false → n ≡ lasts_for (all - u.done)
      → IsTurning all u drain n
  Asks : u.last ≡ true → drain ≡ drains.Asked what.All → n ≡ 0 → IsTurning all u drain n
  Taken : (d : DrainFor) → u.last ≡ true → drain ≡ drains.Granted d → n ≡ 0
      → IsTurning all u drain n

pub record IsOnWay (all : ℕ) (u : Utility) (drain : DrainState) (n : ℕ) : Type 0 where
  pub built : IsBuilt u
  pub unswitched : u.switched ≡ false
  pub turning : IsTurning all u drain n

abbrev pub is_switched : Event → Bool
is_switched (events.Switched copy sides) = true
is_switched event = false

module _ (all n : ℕ) (event : Event) where
  -- the event loads nothing, and as many LAST are still to come afterwards, but for it
  abbrev pub Leads : Turn → Type 0
  Leads (Runs v later) = (is_switched event ≡ false)
      × (goes_on event ≡ true
      → (loads event ≡ false) × (m : ℕ) × (n ≡ last_count event + m) × IsOnWay all v later m)
  Leads (Switches copy sides v) = (goes_on event ≡ false) × (n ≡ 0)
  Leads Stops = (is_switched event ≡ false) × (goes_on event ≡ false)
  Leads Falls = (is_switched event ≡ false) × (goes_on event ≡ false)

  abbrev pub LeadsIf : Option Turn → Type 0
  LeadsIf None = Unit {0}
  LeadsIf (Some turn) = Leads turn

  leads_if : (b : Bool) (turn : Turn) → (b ≡ true → Leads turn) → LeadsIf (turn_if b turn)
  leads_if true turn leads = leads refl
  leads_if false turn leads = tt

early_leads : (all n : ℕ) (event : Event) → LeadsIf all n event (early_stop event)
early_leads all n (events.Stop reasons.Device) = (refl, refl)
early_leads all n (events.Stop reasons.NoMemory) = (refl, refl)
early_leads all n event = tt

space_leads : (all n : ℕ) (event : Event) → LeadsIf all n event (space_stop event)
space_leads all n (events.Stop reasons.NoSpace) = (refl, refl)
space_leads all n event = early_leads all n event

-- ---- the last changes

at_most : (took x : ℕ) → took ≡ min 64 x → x - took ≡ 0 → lasts_for x ≡ 1
at_most took x is none = grind (arith, nat_tests)

more : (took x : ℕ) → took ≡ min 64 x → (x - took ≡ 0 → ⊥) → lasts_for x ≡ 1 + lasts_for (x - took)
more took x is some = go (nat_le 64 x) refl
  where
    go : (b : Bool) → nat_le 64 x ≡ b → lasts_for x ≡ 1 + lasts_for (x - took)
    go b e = grind (arith, nat_tests)

minus_minus : (a b c : ℕ) → a - (b + c) ≡ (a - b) - c
minus_minus a b c = omega arith

module _ (all n : ℕ) (u : Utility) (built : IsBuilt u) (unswitched : u.switched ≡ false) where
  last_leads : (d : DrainFor) (event : Event) → n ≡ lasts_for (all - u.done)
      → LeadsIf all n event (last_turn all u (drains.Granted d) event)
  last_leads d (events.Last took left) at =
      leads_if all n (events.Last took left) _ _ (λ is. (
        refl,
        λ goes.
            let two =
            and_parts (took == min 64 (all - u.done)) (left == all - (u.done + took)) is in
            let took_is : took ≡ min 64 (all - u.done) =
            eqb-true took (min 64 (all - u.done)) two.0 in
            let left_is : left ≡ (all - u.done) - took =
            eqb-true left (all - (u.done + took)) two.1 ∙ minus_minus all u.done took in
            let led = go (left == 0) refl took_is left_is in
            (refl, led.0, led.1, led.2),
      ))
    where
      go : (b : Bool) → (left == 0) ≡ b → took ≡ min 64 (all - u.done)
          → left ≡ (all - u.done) - took
          → (m : ℕ) × (n ≡ 1 + m)
          × IsOnWay all (record u { target = all; done = u.done + took; last = left == 0 })
          (drains.Granted d) m
      go true e took_is left_is = (
        0,
        at ∙ at_most took (all - u.done) took_is (sym left_is ∙ eqb-true left 0 e),
        record {
          built = record {
            copied = built.copied;
            reloaded = built.reloaded;
            sorted = built.sorted;
            built = built.built;
          };
          unswitched = unswitched;
          turning = Taken d e refl refl;
        },
      )
      go false e took_is left_is = (
        lasts_for ((all - u.done) - took),
        at ∙ more took (all - u.done) took_is (λ none. eqb-false left 0 e (left_is ∙ none)),
        record {
          built = record {
            copied = built.copied;
            reloaded = built.reloaded;
            sorted = built.sorted;
            built = built.built;
          };
          unswitched = unswitched;
          turning = Takes d refl e (ap lasts_for (sym (minus_minus all u.done took)));
        },
      )
  last_leads d event at = space_leads all n event

  write_leads : (answer : Answer) (d : DrainFor) (event : Event) → u.last ≡ true → n ≡ 0
      → LeadsIf all n event (write_turn answer u (drains.Granted d) d event)
  write_leads answer what.Writers (events.Written pages) last none = (
    refl,
    λ goes. (
      refl,
      0,
      none,
      record {
        built = record {
          copied = built.copied;
          reloaded = built.reloaded;
          sorted = built.sorted;
          built = built.built;
        };
        unswitched = unswitched;
        turning = Asks last refl refl;
      },
    ),
  )
  write_leads answer what.All (events.Written pages) last none = (
    refl,
    λ goes. (
      refl,
      0,
      none,
      record {
        built = record {
          copied = built.copied;
          reloaded = built.reloaded;
          sorted = built.sorted;
          built = built.built;
        };
        unswitched = unswitched;
        turning = Taken what.All last refl refl;
      },
    ),
  )
  write_leads answer d event last none = early_leads all n event

  switch_leads : (event : Event) → n ≡ 0 → LeadsIf all n event (switch_turn u event)
  switch_leads (events.Switched copy sides) none = (refl, none)
  switch_leads (events.Stop reasons.Device) none = (refl, refl)
  switch_leads event none = early_leads all n event

  wait_leads : (answer : Answer) (verdict : DrainVerdict) (event : Event) → u.last ≡ true → n ≡ 0
      → LeadsIf all n event (wait_turn all answer u (drains.Asked what.All) what.All verdict event)
  wait_leads answer (waits.Wait session) (events.Wait named) last none =
      leads_if all n (events.Wait named) _ _
      (λ is. (
        refl,
        λ goes. (
          refl,
          0,
          none,
          record { built = built; unswitched = unswitched; turning = Asks last refl refl },
        ),
      ))
  wait_leads answer waits.Granted (events.Granted named) last none =
      leads_if all n (events.Granted named) _ _
      (λ is. (
        refl,
        λ goes. (
          refl,
          0,
          none,
          record {
            built = built;
            unswitched = unswitched;
            turning = Taken what.All last refl refl;
          },
        ),
      ))
  wait_leads answer waits.GiveUp (events.GiveUp count) last none =
      leads_if all n (events.GiveUp count) _ _ (λ is. (refl, λ goes. absurd (cc goes)))
  wait_leads answer (waits.Stop reason) (events.Stop named) last none =
      go (same_reason named reason)
    where
      go : (b : Bool)
          → LeadsIf all n (events.Stop named)
          (if b then Some Stops else early_stop (events.Stop named))
      go true = (refl, refl)
      go false = early_leads all n (events.Stop named)
  wait_leads answer verdict event last none = early_leads all n event

-- ---- by the stage

module _ (all n : ℕ) (blocker : Option Session) (answer : Answer) (event : Event) where
  abbrev TurnAt : Utility → Step → DrainState → Type 0
  TurnAt u step drain = LeadsIf all n event (turn_at step all blocker answer u drain event)

  built_at : (u : Utility) (drain : DrainState) → IsBuilt u → TurnAt u (step_by_drain u drain) drain
      → TurnAt u (step_of u drain) drain
  built_at u drain built turn = go (nat_lt u.copied u.pages) (nat_lt u.reloaded u.unloaded)
      (nat_lt u.sorted 3) (nat_lt u.built 3) built.copied built.reloaded built.sorted built.built
    where
      go : (a b c d : Bool) → a ≡ false → b ≡ false → c ≡ false → d ≡ false
          → TurnAt u
          (if a then steps.Unload else (if b then steps.Reload
          else (if c then steps.Sort else (if d then steps.Build else step_by_drain u drain))))
          drain
      go false false false false p q r s = turn
      go true b c d p q r s = absurd (cc p)
      go false true c d p q r s = absurd (cc q)
      go false false true d p q r s = absurd (cc r)
      go false false false true p q r s = absurd (cc s)

  turning_at : (u : Utility) (drain : DrainState) → IsBuilt u → u.switched ≡ false
      → IsTurning all u drain n → TurnAt u (step_by_drain u drain) drain
  turning_at u drain built unswitched (Takes d is last at) =
      subst (λ (x : DrainState). TurnAt u (step_by_drain u x) x) (sym is) (subst
      (λ (b : Bool). TurnAt u
      (if not b then steps.Last else (if not u.written then steps.Write d else steps.Switch))
      (drains.Granted d)) (sym last)
      (last_leads all n u built unswitched d event at))
  turning_at u drain built unswitched (Asks last is none) =
      subst (λ (x : DrainState). TurnAt u (step_by_drain u x) x) (sym is)
      (wait_leads all n u built unswitched answer
      (drain_verdict u.options u.asked u.failed blocker answer.now answer.estimate) event last none)
  turning_at u drain built unswitched (Taken d last is none) =
      subst (λ (x : DrainState). TurnAt u (step_by_drain u x) x) (sym is) (subst
      (λ (b : Bool). TurnAt u
      (if not b then steps.Last else (if not u.written then steps.Write d else steps.Switch))
      (drains.Granted d)) (sym last)
      (go u.written))
    where
      go : (b : Bool) → TurnAt u (if not b then steps.Write d else steps.Switch) (drains.Granted d)
      go false = write_leads all n u built unswitched answer d event last none
      go true = switch_leads all n u built unswitched event none

  altered : (u : Utility) (command : Command) (drain : DrainState) → IsOnWay all u drain n
      → IsOnWay all (alter u command) drain n
  altered u (commands.Alter a) drain way =
      record {
        built = record {
          copied = way.built.copied;
          reloaded = way.built.reloaded;
          sorted = way.built.sorted;
          built = way.built.built;
        };
        unswitched = way.unswitched;
        turning = go way.turning;
      }
    where
      go : IsTurning all u drain n → IsTurning all (alter u (commands.Alter a)) drain n
      go (Takes d is last at) = Takes d is last at
      go (Asks last is none) = Asks last is none
      go (Taken d last is none) = Taken d last is none
  altered u command drain way = way

  -- between a grant and the switch each step leads on, or to its end
  pub way_leads : (u : Utility) (drain : DrainState) → IsOnWay all u drain n
      → LeadsIf all n event (turn_of all blocker answer u drain event)
  way_leads u drain way = by_switched u.switched way.unswitched
    where
      v : Utility
      v = alter u answer.command

      term_leads : (event : Event) → LeadsIf all n event (term_turn event)
      term_leads (events.Stop reasons.Term) = (refl, refl)
      term_leads (events.Stop reasons.NoMemory) = (refl, refl)
      term_leads event = tt

      by_term : (b : Bool)
          → LeadsIf all n event
          (if b then term_turn event
          else turn_at (step_of v drain) all blocker answer v drain event)
      by_term true = term_leads event
      by_term false =
          let now : IsOnWay all v drain n = altered u answer.command drain way in
          built_at v drain now.built (turning_at v drain now.built now.unswitched now.turning)

      by_switched : (b : Bool) → b ≡ false
          → LeadsIf all n event
          (if b then end_turn event else (if is_term answer.command then term_turn event
          else turn_at (step_of v drain) all blocker answer v drain event))
      by_switched true e = absurd (cc e)
      by_switched false e = by_term (is_term answer.command)
