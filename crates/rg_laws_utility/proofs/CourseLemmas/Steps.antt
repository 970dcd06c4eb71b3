-- Where the turn of a calm step leads.
use Rattle.std.proofs.Common.{◌≡◌, ◌≤◌, ◌<◌, ◌+◌, ◌-◌, ◌==◌, ◌&&◌, ℕ, Bool, true, false, not}
use Rattle.std.proofs.Common.{Option, Some, None, nat_lt, nat_le, min, if◌then◌else◌, refl, sym}
use Rattle.std.proofs.Common.{◌∙◌, ap, subst, arith}
use Rattle.std.proofs.lemmas.Bool.Decides.{nat_tests}
use Rattle.std.proofs.lemmas.Bool.{and_parts, ltb-false, eq-eqb, ltb-true, eqb-true}
use Rattle.rg_base.specs.declared.control.Deadline.{Deadline}
use Rattle.rg_base.specs.declared.control.Deadline.TheVariants.{Never, At}
use Rattle.rg_base.specs.declared.control.Maxro.{Maxro}
use Rattle.rg_base.specs.declared.control.Maxro.TheVariants.{Within}
use Rattle.rg_base.specs.declared.options.DrainFor.{DrainFor}
use Rattle.rg_base.specs.declared.options.DrainFor.TheVariants as what
use Rattle.rg_base.specs.declared.options.DrainState.{DrainState}
use Rattle.rg_base.specs.declared.options.DrainState.TheVariants as drains
use Rattle.rg_base.specs.declared.options.Options.{Options}
use Rattle.rg_base.specs.declared.session.Session.{Session}
use Rattle.rg_base.specs.declared.step.Step.{Step}
use Rattle.rg_base.specs.declared.step.Step.TheVariants as steps
use Rattle.rg_base.specs.declared.verdict.DrainVerdict.{DrainVerdict}
use Rattle.rg_base.specs.declared.verdict.DrainVerdict.TheVariants as waits
use Rattle.rg_base.specs.declared.verdict.StopReason.TheVariants as reasons
use Rattle.rg_base.specs.declared.verdict.Verdict.{Verdict}
use Rattle.rg_base.specs.declared.verdict.Verdict.TheVariants as verdicts
use Rattle.rg_model.specs.Same.{same_drain, same_verdict}
use Rattle.rg_model.specs.State.{Utility}
use Rattle.rg_model.specs.Turn.{Turn, Runs, Switches, Stops, Falls, build_turn, early_stop}
use Rattle.rg_model.specs.Turn.{end_turn, last_turn, log_turn, log_verdict, next_iteration}
use Rattle.rg_model.specs.Turn.{reload_turn, sort_turn, space_stop, step_by_drain, step_of}
use Rattle.rg_model.specs.Turn.{switch_turn, turn_at, turn_if, turn_of, unload_turn, verdict_turn}
use Rattle.rg_model.specs.Turn.{wait_turn, write_turn}
use Rattle.rg_model.specs.Verdict.{drain_verdict, is_late, is_short, is_slow, iteration_verdict}
use Rattle.rg_model.specs.Verdict.{may_drain, slow_verdict}
use Rattle.rg_stmt.specs.declared.event.Event.{Event}
use Rattle.rg_stmt.specs.declared.event.Event.TheVariants as events
use Rattle.rg_laws_utility.specs.Course.Course.{calm, is_hindered, step_count}
use Rattle.rg_laws_utility.proofs.CourseLemmas.Phases.{IsBuilt, IsCalm, IsEarly, Late, Waits, Takes}
use Rattle.rg_laws_utility.proofs.CourseLemmas.Phases.{Writes, WaitsForAll, ToSwitch, Phase, Early}
use Rattle.rg_laws_utility.proofs.CourseLemmas.Phases.{Drained, Ends, tail, tail_left}

module _ (most n : ℕ) (event : Event) where
  -- what the turn leaves: fewer steps, or none
  abbrev pub Leads : Turn → Type 0
  Leads (Runs v later) = (m : ℕ) × (n ≡ step_count event + m) × Phase most v later m
  Leads (Switches copy sides v) =
      (m : ℕ) × (n ≡ step_count event + m) × ((later : DrainState) → Phase most v later m)
  Leads Stops = (n ≡ 1) × (event ≡ events.Ended)
  Leads Falls = ⊥

  abbrev pub LeadsIf : Option Turn → Type 0
  LeadsIf None = Unit {0}
  LeadsIf (Some turn) = Leads turn

  leads_if : (b : Bool) (turn : Turn) → (b ≡ true → Leads turn) → LeadsIf (turn_if b turn)
  leads_if true turn leads = leads refl
  leads_if false turn leads = tt

early_leads : (most n : ℕ) (event : Event) → is_hindered event ≡ false
    → LeadsIf most n event (early_stop event)
early_leads most n (events.Stop reason) e = absurd (cc e)
early_leads most n event e = tt

space_leads : (most n : ℕ) (event : Event) → is_hindered event ≡ false
    → LeadsIf most n event (space_stop event)
space_leads most n (events.Stop reason) e = absurd (cc e)
space_leads most n event e = tt

-- ---- before the drain

module _ (most n : ℕ) (u : Utility) (steady : IsCalm most u) (early : IsEarly u n) where
  unload_leads : (event : Event) → is_hindered event ≡ false → nat_lt u.copied u.pages ≡ true
      → LeadsIf most n event (unload_turn u drains.Free event)
  unload_leads (events.Unload page rows) e more =
      leads_if most n (events.Unload page rows) _ _ (λ is.
      let next : page ≡ u.copied + 1 =
      eqb-true page (u.copied + 1) (and_parts (page == u.copied + 1) (nat_le rows 225) is).0 in
      let left : n + (u.copied + (u.sorted + u.built)) ≡ u.pages + (6 + tail u.options.drain) =
      early.left in
      let (low, s, b) : (u.copied < u.pages) × (u.sorted ≤ 3) × (u.built ≤ 3) =
      (ltb-true u.copied u.pages more, early.sorted, early.built) in (
        n - 1,
        omega arith,
        Early
            (record {
              maxro = steady.maxro;
              done = steady.done;
              target = steady.target;
              gave_up = steady.gave_up;
            }) refl
            (record {
              last = early.last;
              written = early.written;
              switched = early.switched;
              copied = omega arith;
              sorted = s;
              built = b;
              left = omega arith;
            }),
      ))
  unload_leads event e more = early_leads most n event e

  reload_leads : (event : Event) → is_hindered event ≡ false
      → LeadsIf most n event (reload_turn u drains.Free event)
  reload_leads (events.Reload page rows) e =
      leads_if most n (events.Reload page rows) _ _ (λ is. (
        n,
        omega arith,
        Early
            (record {
              maxro = steady.maxro;
              done = steady.done;
              target = steady.target;
              gave_up = steady.gave_up;
            }) refl
            (record {
              last = early.last;
              written = early.written;
              switched = early.switched;
              copied = early.copied;
              sorted = early.sorted;
              built = early.built;
              left = early.left;
            }),
      ))
  reload_leads event e = space_leads most n event e

  sort_leads : (event : Event) → is_hindered event ≡ false → nat_lt u.sorted 3 ≡ true
      → LeadsIf most n event (sort_turn u drains.Free event)
  sort_leads (events.Sort which) e more =
      leads_if most n (events.Sort which) _ _ (λ is.
      let left : n + (u.copied + (u.sorted + u.built)) ≡ u.pages + (6 + tail u.options.drain) =
      early.left in
      let (low, c, b) : (u.sorted < 3) × (u.copied ≤ u.pages) × (u.built ≤ 3) =
      (ltb-true u.sorted 3 more, early.copied, early.built) in (
        n - 1,
        omega arith,
        Early
            (record {
              maxro = steady.maxro;
              done = steady.done;
              target = steady.target;
              gave_up = steady.gave_up;
            }) refl
            (record {
              last = early.last;
              written = early.written;
              switched = early.switched;
              copied = c;
              sorted = omega arith;
              built = b;
              left = omega arith;
            }),
      ))
  sort_leads event e more = early_leads most n event e

  build_leads : (event : Event) → is_hindered event ≡ false → nat_lt u.built 3 ≡ true
      → LeadsIf most n event (build_turn 0 u drains.Free event)
  build_leads (events.Build which) e more =
      leads_if most n (events.Build which) _ _ (λ is. built (u.built == 2) refl)
    where
      left : n + (u.copied + (u.sorted + u.built)) ≡ u.pages + (6 + tail u.options.drain)
      left = early.left

      built : (b : Bool) → (u.built == 2) ≡ b
          → Leads most n (events.Build which)
          (Runs
          (if b then next_iteration 0 (record u { built = 3 })
          else record u { built = u.built + 1 }) drains.Free)
      built true is =
          let two : u.built ≡ 2 = eqb-true u.built 2 is in
          let (c, s) : (u.copied ≤ u.pages) × (u.sorted ≤ 3) = (early.copied, early.sorted) in (
            n - 1,
            omega arith,
            Early
                (record {
                  maxro = steady.maxro;
                  done = steady.done;
                  target = refl;
                  gave_up = steady.gave_up;
                }) refl
                (record {
                  last = early.last;
                  written = early.written;
                  switched = early.switched;
                  copied = c;
                  sorted = s;
                  built = omega arith;
                  left = omega arith;
                }),
          )
      built false is =
          let (low, c, s) : (u.built < 3) × (u.copied ≤ u.pages) × (u.sorted ≤ 3) =
          (ltb-true u.built 3 more, early.copied, early.sorted) in (
            n - 1,
            omega arith,
            Early
                (record {
                  maxro = steady.maxro;
                  done = steady.done;
                  target = steady.target;
                  gave_up = steady.gave_up;
                }) refl
                (record {
                  last = early.last;
                  written = early.written;
                  switched = early.switched;
                  copied = c;
                  sorted = s;
                  built = omega arith;
                  left = omega arith;
                }),
          )
  build_leads event e more = early_leads most n event e

-- ---- the drain is asked

never_late : (d : Deadline) → is_late d 0 0 ≡ false
never_late Never = refl
never_late (At limit) = grind (arith, nat_tests)

always_short : (most : ℕ) → is_short (Within most) 0 ≡ true
always_short most = grind (arith, nat_tests)

-- an estimate of 0 asks the drain
asks_drain : (options : Options) (most left size : ℕ) (gave_up message : Option ℕ)
    → options.maxro ≡ Within most → gave_up ≡ None
    → iteration_verdict options left size gave_up message 0 0 ≡ verdicts.Drain options.drain
asks_drain options most left size gave_up message maxro none =
    go (is_late options.deadline 0 0) (is_short options.maxro 0) (may_drain options.pause gave_up 0)
    (never_late options.deadline)
    (ap (λ (m : Maxro). is_short m 0) maxro ∙ always_short most)
    (ap (λ (o : Option ℕ). may_drain options.pause o 0) none)
  where
    go : (a b c : Bool) → a ≡ false → b ≡ true → c ≡ true
        →
        (if a then verdicts.Stop reasons.Deadline else (if b && c then verdicts.Drain options.drain
        else (if is_slow left size then slow_verdict options gave_up message 0 else verdicts.Next)))
        ≡ verdicts.Drain options.drain
    go false true true d e f = refl
    go true b c d e f = absurd (cc d)
    go false false c d e f = absurd (cc e)
    go false true false d e f = absurd (cc f)

pub same_asked : (a b : DrainFor) → same_drain a b ≡ true → a ≡ b
same_asked what.Writers what.Writers e = refl
same_asked what.All what.All e = refl
same_asked what.Writers what.All e = absurd (cc e)
same_asked what.All what.Writers e = absurd (cc e)

same_as_drain : (verdict : Verdict) (d : DrainFor) → same_verdict verdict (verdicts.Drain d) ≡ true
    → verdict ≡ verdicts.Drain d
same_as_drain (verdicts.Drain a) d e = ap verdicts.Drain (same_asked a d e)
same_as_drain verdict d e = absurd (cc e)

-- no change is taken where there is none
none_taken : (took a b : ℕ) → (took == min 64 (a - b)) ≡ true → a ≡ 0 → took ≡ 0
none_taken took a b e zero_is =
    eqb-true took (min 64 (a - b)) e ∙ ap (λ (x : ℕ). min 64 (x - b)) zero_is ∙ none b
  where
    nothing : (b : ℕ) → 0 - b ≡ 0
    nothing b = omega arith

    none : (b : ℕ) → min 64 (0 - b) ≡ 0
    none b = ap (λ (x : ℕ). min 64 x) (nothing b)

module _ (most n : ℕ) (u : Utility) (steady : IsCalm most u) (built : IsBuilt u)
    (unswitched : u.switched ≡ false) where
  log_leads : (event : Event) → is_hindered event ≡ false → IsEarly u n
      → LeadsIf most n event (log_turn 0 calm u drains.Free event)
  log_leads (events.Log iteration took left verdict) e early =
      leads_if most n (events.Log iteration took left verdict) _ _ (λ is.
      let next : Utility = record u { done = u.done + took } in
      let one = and_parts (iteration == u.iteration)
      (took == min 64 (u.target - u.done)
      && (left == 0 - (u.done + took) && same_verdict verdict (log_verdict left calm next))) is in
      let two = and_parts (took == min 64 (u.target - u.done))
      (left == 0 - (u.done + took) && same_verdict verdict (log_verdict left calm next)) one.1 in
      let three = and_parts (left == 0 - (u.done + took))
      (same_verdict verdict (log_verdict left calm next)) two.1 in
      let took_is : took ≡ 0 = none_taken took u.target u.done two.0 steady.target in
      let done_is : u.done ≡ 0 = steady.done in
      let now_is : u.done + took ≡ 0 = omega arith in
      let asks : log_verdict left calm next ≡ verdicts.Drain u.options.drain =
      at_target left took (now_is ∙ sym steady.target) in
      let same : verdict ≡ verdicts.Drain u.options.drain =
      same_as_drain verdict u.options.drain (ap (same_verdict verdict) (sym asks) ∙ three.1) in
      let all : n + (u.copied + (u.sorted + u.built)) ≡ u.pages + (6 + tail u.options.drain) =
      early.left in
      let (c, s, b) : (u.copied ≤ u.pages) × (u.sorted ≤ 3) × (u.built ≤ 3) =
      (early.copied, early.sorted, early.built) in
      let (c2, s2, b2) : (u.pages ≤ u.copied) × (3 ≤ u.sorted) × (3 ≤ u.built) = (
        ltb-false u.copied u.pages built.copied,
        ltb-false u.sorted 3 built.sorted,
        ltb-false u.built 3 built.built,
      ) in
      let low : 6 ≤ tail u.options.drain = tail_left u.options.drain in
      subst
      (λ (v : Verdict). Leads most n (events.Log iteration took left v)
      (verdict_turn 0 0 (is_slow left u.size) next drains.Free v)) (sym same) (
        n - 1,
        omega arith,
        Drained
            (record {
              maxro = steady.maxro;
              done = now_is;
              target = steady.target;
              gave_up = steady.gave_up;
            })
            (record {
              copied = built.copied;
              reloaded = built.reloaded;
              sorted = built.sorted;
              built = built.built;
            }) unswitched
            (Waits u.options.drain refl early.last early.written (omega arith)),
      ))
    where
      at_target : (left took : ℕ) → u.done + took ≡ u.target
          → log_verdict left calm (record u { done = u.done + took })
          ≡ verdicts.Drain u.options.drain
      at_target left took reached =
          go (u.done + took == u.target) (eq-eqb (u.done + took) u.target reached)
        where
          go : (b : Bool) → b ≡ true
              → (if b then iteration_verdict u.options left u.size u.gave_up u.message 0 0
              else verdicts.More) ≡ verdicts.Drain u.options.drain
          go true e =
              asks_drain u.options most left u.size u.gave_up u.message steady.maxro steady.gave_up
          go false e = absurd (cc e)
  log_leads event e early = space_leads most n event e

  -- under a drain that was asked, nobody is in its way
  granted_leads : (d : DrainFor) (event : Event) → is_hindered event ≡ false
      → ((named : DrainFor) → event ≡ events.Granted named
      → Leads most n event (Runs u (drains.Granted d)))
      → LeadsIf most n event (wait_turn 0 calm u (drains.Asked d) d waits.Granted event)
  granted_leads d (events.Granted named) e leads =
      leads_if most n (events.Granted named) _ _ (λ is. leads named refl)
  granted_leads d event e leads = early_leads most n event e

  last_leads : (d : DrainFor) (event : Event) → is_hindered event ≡ false → u.written ≡ false
      → n + 2 ≡ tail d → LeadsIf most n event (last_turn 0 u (drains.Granted d) event)
  last_leads d (events.Last took left) e unwritten at =
      leads_if most n (events.Last took left) _ _ (λ is.
      let two = and_parts (took == min 64 (0 - u.done)) (left == 0 - (u.done + took)) is in
      let took_is : took ≡ 0 = none_taken took 0 u.done two.0 refl in
      let done_is : u.done ≡ 0 = steady.done in
      let now_is : u.done + took ≡ 0 = omega arith in
      let left_at : left ≡ 0 - (u.done + took) = eqb-true left (0 - (u.done + took)) two.1 in
      let left_is : left ≡ 0 = omega arith in
      let low : 6 ≤ tail d = tail_left d in (
        n - 1,
        omega arith,
        Drained
            (record {
              maxro = steady.maxro;
              done = now_is;
              target = refl;
              gave_up = steady.gave_up;
            })
            (record {
              copied = built.copied;
              reloaded = built.reloaded;
              sorted = built.sorted;
              built = built.built;
            }) unswitched
            (Writes d refl (eq-eqb left 0 left_is) unwritten (omega arith)),
      ))
  last_leads d event e unwritten at = space_leads most n event e

  write_leads : (d : DrainFor) (event : Event) → is_hindered event ≡ false → u.last ≡ true
      → n + 3 ≡ tail d → LeadsIf most n event (write_turn calm u (drains.Granted d) d event)
  write_leads what.Writers (events.Written pages) e last at = (
    3,
    omega arith,
    Drained
        (record {
          maxro = steady.maxro;
          done = steady.done;
          target = steady.target;
          gave_up = steady.gave_up;
        })
        (record {
          copied = built.copied;
          reloaded = built.reloaded;
          sorted = built.sorted;
          built = built.built;
        }) unswitched
        (WaitsForAll refl last refl refl),
  )
  write_leads what.All (events.Written pages) e last at = (
    2,
    omega arith,
    Drained
        (record {
          maxro = steady.maxro;
          done = steady.done;
          target = steady.target;
          gave_up = steady.gave_up;
        })
        (record {
          copied = built.copied;
          reloaded = built.reloaded;
          sorted = built.sorted;
          built = built.built;
        }) unswitched
        (ToSwitch refl last refl refl),
  )
  write_leads d event e last at = early_leads most n event e

  switch_leads : (event : Event) → is_hindered event ≡ false → n ≡ 2
      → LeadsIf most n event (switch_turn u event)
  switch_leads (events.Switched copy sides) e at = (1, omega arith, λ later. Ends refl refl)
  switch_leads (events.Stop reason) e at = absurd (cc e)
  switch_leads event e at = early_leads most n event e

end_leads : (most n : ℕ) (event : Event) → is_hindered event ≡ false → n ≡ 1
    → LeadsIf most n event (end_turn event)
end_leads most n events.Ended e at = (at, refl)
end_leads most n event e at = early_leads most n event e

-- ---- by the stage

-- whoever holds a claim, a step that nothing hinders is a grant
any_verdict : (most n : ℕ) (u : Utility) (drain : DrainState) (d : DrainFor)
    (verdict : DrainVerdict) (event : Event) → is_hindered event ≡ false
    → LeadsIf most n event (wait_turn 0 calm u drain d waits.Granted event)
    → LeadsIf most n event (wait_turn 0 calm u drain d verdict event)
any_verdict most n u drain d waits.Granted event e leads = leads
any_verdict most n u drain d (waits.Wait session) (events.Wait named) e leads = absurd (cc e)
any_verdict most n u drain d waits.GiveUp (events.GiveUp count) e leads = absurd (cc e)
any_verdict most n u drain d (waits.Stop reason) (events.Stop named) e leads = absurd (cc e)
any_verdict most n u drain d verdict event e leads = early_leads most n event e

module _ (most n : ℕ) (holder : Option Session) (u : Utility) (event : Event)
    (goes_on : is_hindered event ≡ false) where
  abbrev TurnAt : Step → DrainState → Type 0
  TurnAt step drain = LeadsIf most n event (turn_at step 0 holder calm u drain event)

  early_at : IsCalm most u → IsEarly u n → TurnAt (step_of u drains.Free) drains.Free
  early_at steady early = go (nat_lt u.copied u.pages) (nat_lt u.reloaded u.unloaded)
      (nat_lt u.sorted 3) (nat_lt u.built 3) refl refl refl refl
    where
      go : (a b c d : Bool) → nat_lt u.copied u.pages ≡ a → nat_lt u.reloaded u.unloaded ≡ b
          → nat_lt u.sorted 3 ≡ c → nat_lt u.built 3 ≡ d
          → TurnAt
          (if a then steps.Unload else (if b then steps.Reload
          else (if c then steps.Sort else (if d then steps.Build else steps.Log)))) drains.Free
      go true b c d p q r s = unload_leads most n u steady early event goes_on p
      go false true c d p q r s = reload_leads most n u steady early event goes_on
      go false false true d p q r s = sort_leads most n u steady early event goes_on r
      go false false false true p q r s = build_leads most n u steady early event goes_on s
      go false false false false p q r s =
          log_leads most n u steady (record { copied = p; reloaded = q; sorted = r; built = s })
          early.switched event goes_on early

  built_at : (drain : DrainState) → IsBuilt u → TurnAt (step_by_drain u drain) drain
      → TurnAt (step_of u drain) drain
  built_at drain built turn = go (nat_lt u.copied u.pages) (nat_lt u.reloaded u.unloaded)
      (nat_lt u.sorted 3) (nat_lt u.built 3) built.copied built.reloaded built.sorted built.built
    where
      go : (a b c d : Bool) → a ≡ false → b ≡ false → c ≡ false → d ≡ false
          → TurnAt
          (if a then steps.Unload else (if b then steps.Reload
          else (if c then steps.Sort else (if d then steps.Build else step_by_drain u drain))))
          drain
      go false false false false p q r s = turn
      go true b c d p q r s = absurd (cc p)
      go false true c d p q r s = absurd (cc q)
      go false false true d p q r s = absurd (cc r)
      go false false false true p q r s = absurd (cc s)

  granted_at : (d : DrainFor) (last written : Bool) → u.last ≡ last → u.written ≡ written
      → TurnAt
      (if not last then steps.Last else (if not written then steps.Write d else steps.Switch))
      (drains.Granted d)
      → TurnAt (step_by_drain u (drains.Granted d)) (drains.Granted d)
  granted_at d last written is_last is_written turn =
      subst
      (λ (b : Bool).
      TurnAt (if not b then steps.Last else (if not u.written then steps.Write d else steps.Switch))
      (drains.Granted d)) (sym is_last)
      (subst
      (λ (b : Bool).
      TurnAt (if not last then steps.Last else (if not b then steps.Write d else steps.Switch))
      (drains.Granted d)) (sym is_written) turn)

  waited_at : (d : DrainFor)
      → LeadsIf most n event (wait_turn 0 calm u (drains.Asked d) d waits.Granted event)
      → TurnAt (steps.Wait d) (drains.Asked d)
  waited_at d leads = any_verdict most n u (drains.Asked d) d
      (drain_verdict u.options u.asked u.failed holder 0 0) event goes_on leads

  late_at : (drain : DrainState) → IsCalm most u → IsBuilt u → u.switched ≡ false → Late u drain n
      → TurnAt (step_by_drain u drain) drain
  late_at drain steady built unswitched (Waits d is last written at) =
      subst (λ (x : DrainState). TurnAt (step_by_drain u x) x) (sym is)
      (waited_at d
      (granted_leads most n u steady built unswitched d event goes_on (λ named now.
      let low : 6 ≤ tail d = tail_left d in
      let one : step_count event ≡ 1 = ap step_count now in (
        n - 1,
        omega arith,
        Drained steady built unswitched (Takes d refl last written (omega arith)),
      ))))
  late_at drain steady built unswitched (Takes d is last written at) =
      subst (λ (x : DrainState). TurnAt (step_by_drain u x) x) (sym is)
      (granted_at d false false last written
      (last_leads most n u steady built unswitched d event goes_on written at))
  late_at drain steady built unswitched (Writes d is last written at) =
      subst (λ (x : DrainState). TurnAt (step_by_drain u x) x) (sym is)
      (granted_at d true false last written
      (write_leads most n u steady built unswitched d event goes_on last at))
  late_at drain steady built unswitched (WaitsForAll is last written at) =
      subst (λ (x : DrainState). TurnAt (step_by_drain u x) x) (sym is)
      (waited_at what.All
      (granted_leads most n u steady built unswitched what.All event goes_on (λ named now.
      let one : step_count event ≡ 1 = ap step_count now in
      (2, omega arith, Drained steady built unswitched (ToSwitch refl last written refl)))))
  late_at drain steady built unswitched (ToSwitch is last written at) =
      subst (λ (x : DrainState). TurnAt (step_by_drain u x) x) (sym is)
      (granted_at what.All true true last written
      (switch_leads most n u steady built unswitched event goes_on at))

  by_switched : (drain : DrainState) (b : Bool) → (b ≡ true → n ≡ 1)
      → (b ≡ false → TurnAt (step_of u drain) drain)
      → LeadsIf most n event
      (if b then end_turn event else turn_at (step_of u drain) 0 holder calm u drain event)
  by_switched drain true ends turns = end_leads most n event goes_on (ends refl)
  by_switched drain false ends turns = turns refl

  -- each calm step leads to fewer steps, or to ENDED
  pub phase_leads : (drain : DrainState) → Phase most u drain n
      → LeadsIf most n event (turn_of 0 holder calm u drain event)
  phase_leads drain (Early steady free early) =
      by_switched drain u.switched (λ is. absurd (cc (is, early.switched)))
      (λ is. subst (λ (d : DrainState). TurnAt (step_of u d) d) (sym free) (early_at steady early))
  phase_leads drain (Drained steady built unswitched late) =
      by_switched drain u.switched (λ is. absurd (cc (is, unswitched)))
      (λ is. built_at drain built (late_at drain steady built unswitched late))
  phase_leads drain (Ends switched at) =
      by_switched drain u.switched (λ is. at) (λ is. absurd (cc (is, switched)))
