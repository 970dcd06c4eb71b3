-- Nobody writes while a drain is granted.
use Rattle.std.proofs.Common.{◌≡◌, ◌≤◌, ◌+◌, ◌-◌, ◌==◌, ◌&&◌, ◌||◌, ◌⊎◌, inl, inr, ℕ, Bool, true}
use Rattle.std.proofs.Common.{false, not, List, [], ◌∷◌, Option, Some, None, IfSome, is_some, min}
use Rattle.std.proofs.Common.{nat_lt, nat_le, if◌then◌else◌, refl, sym, ◌∙◌, ap, subst, arith}
use Rattle.std.specs.FinMap as map
use Rattle.std.proofs.lemmas.Bool.Decides.{nat_tests}
use Rattle.std.proofs.lemmas.Bool.{and_parts}
use Rattle.rg_base.proofs.Small.{not_both}
use Rattle.rg_base.specs.declared.control.Answer.{Answer}
use Rattle.rg_base.specs.declared.control.Command.{Command}
use Rattle.rg_base.specs.declared.control.Command.TheVariants as commands
use Rattle.rg_base.specs.declared.options.DrainFor.{DrainFor}
use Rattle.rg_base.specs.declared.options.DrainFor.TheVariants as what
use Rattle.rg_base.specs.declared.options.DrainState.{DrainState}
use Rattle.rg_base.specs.declared.options.DrainState.TheVariants as drains
use Rattle.rg_base.specs.declared.options.Options.{Options}
use Rattle.rg_base.specs.declared.session.Class.TheVariants.{Writer}
use Rattle.rg_base.specs.declared.session.Session.{Session}
use Rattle.rg_base.specs.declared.step.Step.{Step}
use Rattle.rg_base.specs.declared.step.Step.TheVariants as steps
use Rattle.rg_base.specs.declared.verdict.DrainVerdict.{DrainVerdict}
use Rattle.rg_base.specs.declared.verdict.DrainVerdict.TheVariants as waits
use Rattle.rg_base.specs.declared.verdict.StopReason.TheVariants as reasons
use Rattle.rg_base.specs.declared.verdict.Verdict.{Verdict}
use Rattle.rg_base.specs.declared.verdict.Verdict.TheVariants as verdicts
use Rattle.rg_stmt.specs.declared.event.Actor.{Actor}
use Rattle.rg_stmt.specs.declared.event.Actor.TheVariants as actors
use Rattle.rg_stmt.specs.declared.event.Entry.{Entry}
use Rattle.rg_stmt.specs.declared.event.Event.{Event}
use Rattle.rg_stmt.specs.declared.event.Event.TheVariants as events
use Rattle.rg_stmt.specs.declared.layout.Sides.{Sides}
use Rattle.rg_stmt.specs.declared.stmt.Reply.{Reply}
use Rattle.rg_stmt.specs.declared.stmt.Stmt.{Stmt}
use Rattle.rg_model.specs.Changes.{changes, unit_writes}
use Rattle.rg_model.specs.Claims.{has_class, least_holder}
use Rattle.rg_model.specs.Packed.{page_at}
use Rattle.rg_model.specs.Possible.{next_state, state_after_step}
use Rattle.rg_model.specs.Run.{Allows, Run, Says, behind}
use Rattle.rg_model.specs.Same.{same_drain, same_reason, same_verdict, same_which}
use Rattle.rg_model.specs.State.{State, Table, Utility, at_rest}
use Rattle.rg_model.specs.Turn.{Turn, Runs, Switches, Stops, Falls, alter, build_turn, early_stop}
use Rattle.rg_model.specs.Turn.{build_next, end_turn, is_term, last_turn, log_turn, log_verdict}
use Rattle.rg_model.specs.Turn.{nth_which, reload_turn, sort_turn, space_stop, step_by_drain}
use Rattle.rg_model.specs.Turn.{step_of, switch_turn, term_turn, turn_at, turn_if, turn_of}
use Rattle.rg_model.specs.Turn.{unload_turn, verdict_turn, wait_turn, write_turn}
use Rattle.rg_model.specs.Utility.{start_utility, state_by_turn, state_of_turn, state_stepped}
use Rattle.rg_model.specs.Utility.{new_utility, stop_utility}
use Rattle.rg_model.specs.Verdict.{drain_verdict, is_slow}
use Rattle.rg_model.proofs.Allowed.{allowed_is, allowed_was, some_is}
use Rattle.rg_laws_utility.specs.Course.Drained.{IsUnderDrain, NobodyWrites, is_drained_for}
use Rattle.rg_laws_utility.specs.Course.Drained.{NobodyWritesUnderDrain, NothingChangesUnderDrain}
use Rattle.rg_laws_utility.specs.Course.Drained.{WrittenAtWritten, is_granted, is_written}
use Rattle.rg_laws_utility.specs.Course.Switching.{goes_on}
use Rattle.rg_laws_utility.proofs.CourseLemmas.Caught.{IsDrained, covered, entry_next, grant_begins}
use Rattle.rg_laws_utility.proofs.CourseLemmas.Caught.{Next, lasts_after}
use Rattle.rg_laws_utility.proofs.CourseLemmas.Turning.{IsOnWay}
use Rattle.rg_laws_utility.proofs.CourseLemmas.Quieted.{NoWriter, said_quiet, says_quiet}
use Rattle.rg_laws_utility.proofs.CourseLemmas.Resting.{IsRest, entry_rests, rests_at_first}
use Rattle.rg_laws_utility.proofs.CourseLemmas.Told.{no_utility, one_utility}
use Rattle.rg_laws_utility.proofs.CourseLemmas.Writers.{AreWriters, writers_after, writers_at_rest}
use Rattle.rg_laws_utility.proofs.TraceStageLemmas.Keeping.{said_keeps}
use Rattle.rg_laws_utility.proofs.LockClaimsLemmas.Writing.{IsWriter}

abbrev is_grant : Event → Bool
is_grant (events.Granted drain) = true
is_grant event = false

-- ---- what a turn leaves

-- Under a drain the numbers come only of those under one, or of a grant. The last changes are taken
-- with the last LAST, and the new copy is written with WRITTEN.
record Shuts (all : ℕ) (u : Utility) (drain : DrainState) (event : Event) (v : Utility)
    (later : DrainState) : Type 0 where
  pub switched : v.switched ≡ u.switched
  pub before :
      is_drained_for v later ≡ true
      → (is_drained_for u drain ≡ true) ⊎ (is_grant event ≡ true)
  pub last : v.last ≡ true → ((u.last ≡ true) × (u.done ≤ v.done)) ⊎ (all ≤ v.done)
  pub over : goes_on event ≡ false → is_drained_for v later ≡ false
  pub written : v.written ≡ true → (u.written ≡ true) ⊎ (is_written event ≡ true)

abbrev ShutsBy : (all : ℕ) → Utility → DrainState → Event → Turn → Type 0
ShutsBy all u drain event (Runs v later) = Shuts all u drain event v later
ShutsBy all u drain event (Switches copy sides v) = v.switched ≡ true
ShutsBy all u drain event Stops = Unit {0}
ShutsBy all u drain event Falls = Unit {0}

-- of three, where the last may be another
or_alone : (a b c : Bool) → (a || (b || false)) ≡ true → (a || (b || c)) ≡ true
or_alone true b c e = refl
or_alone false true c e = refl
or_alone false false c e = absurd (cc e)

or_third : (a b : Bool) → (a || (b || true)) ≡ true
or_third true b = refl
or_third false true = refl
or_third false false = refl

or_first : (a b : Bool) → a ≡ true → (a || b) ≡ true
or_first true b e = refl
or_first false b e = absurd (cc e)

not_true : (b : Bool) → b ≡ false → b ≡ true → ⊥
not_true b e f = absurd (cc (e, f))

module _ (all : ℕ) (u : Utility) (drain : DrainState) (event : Event) where
  abbrev ShutsIf : Option Turn → Type 0
  ShutsIf turn = IfSome turn (ShutsBy all u drain event)

  shuts_if : (b : Bool) (turn : Turn) → (b ≡ true → ShutsBy all u drain event turn)
      → ShutsIf (turn_if b turn)
  shuts_if true turn shuts = shuts refl
  shuts_if false turn shuts = tt

  -- the drain is the same
  keeps : (v : Utility) → v.switched ≡ u.switched → v.last ≡ u.last → v.written ≡ u.written
      → u.done ≤ v.done → goes_on event ≡ true → Shuts all u drain event v drain
  keeps v switched last written done goes = record {
    switched = switched;
    before = λ is.
        inl (sym (ap (λ (b : Bool). b || (v.written || is_granted drain)) last
        ∙ ap (λ (b : Bool). u.last || (b || is_granted drain)) written) ∙ is);
    last = λ is. inl (sym last ∙ is, done);
    over = λ no. absurd (not_true (goes_on event) no goes);
    written = λ is. inl (sym written ∙ is);
  }

  -- a drain is asked
  asks : (v : Utility) (asked : DrainFor) → v.switched ≡ u.switched → v.last ≡ u.last
      → v.written ≡ u.written → u.done ≤ v.done → goes_on event ≡ true
      → Shuts all u drain event v (drains.Asked asked)
  asks v asked switched last written done goes = record {
    switched = switched;
    before = λ is.
        inl (or_alone u.last u.written (is_granted drain)
        (sym (ap (λ (b : Bool). b || (v.written || false)) last
        ∙ ap (λ (b : Bool). u.last || (b || false)) written) ∙ is));
    last = λ is. inl (sym last ∙ is, done);
    over = λ no. absurd (not_true (goes_on event) no goes);
    written = λ is. inl (sym written ∙ is);
  }

  early : ShutsIf (early_stop event)
  early = go event
    where
      go : (event : Event) → IfSome (early_stop event) (ShutsBy all u drain event)
      go (events.Stop reasons.Device) = tt
      go (events.Stop reasons.NoMemory) = tt
      go event = tt

space_shuts : (all : ℕ) (u : Utility) (drain : DrainState) (event : Event)
    → ShutsIf all u drain event (space_stop event)
space_shuts all u drain (events.Stop reasons.NoSpace) = tt
space_shuts all u drain event = early all u drain event

granted_for : (event : Event) → is_grant event ≡ true
    → (d : DrainFor) × (event ≡ events.Granted d)
granted_for (events.Granted drain) is = (drain, refl)
granted_for event is = absurd (cc is)

none_is : (o : Option Utility) → not (is_some o) ≡ true → o ≡ None
none_is None is = refl
none_is (Some u) is = absurd (cc is)

no_less : (n m : ℕ) → n ≤ n + m
no_less n m = omega arith

none_left : (all taken left : ℕ) → (left == 0) ≡ true → (left == all - taken) ≡ true → all ≤ taken
none_left all taken left e f = grind (arith, nat_tests, e, f)

-- ---- by the step

module _ (all : ℕ) (u : Utility) where
  unload_shuts : (drain : DrainState) (event : Event)
      → ShutsIf all u drain event (unload_turn u drain event)
  unload_shuts drain (events.Unload page rows) =
      shuts_if all u drain (events.Unload page rows) (page == u.copied + 1 && nat_le rows 225) _
      (λ is. keeps all u drain (events.Unload page rows) _ refl refl refl (omega arith) refl)
  unload_shuts drain event = early all u drain event

  reload_shuts : (drain : DrainState) (event : Event)
      → ShutsIf all u drain event (reload_turn u drain event)
  reload_shuts drain (events.Reload page rows) =
      shuts_if all u drain (events.Reload page rows)
      (page == page_at u.options.freepage (u.filled + 1)
      && (nat_le 1 rows && nat_le rows (u.unloaded - u.reloaded))) _
      (λ is. keeps all u drain (events.Reload page rows) _ refl refl refl (omega arith) refl)
  reload_shuts drain event = space_shuts all u drain event

  sort_shuts : (drain : DrainState) (event : Event)
      → ShutsIf all u drain event (sort_turn u drain event)
  sort_shuts drain (events.Sort which) =
      shuts_if all u drain (events.Sort which) (same_which which (nth_which u.sorted)) _
      (λ is. keeps all u drain (events.Sort which) _ refl refl refl (omega arith) refl)
  sort_shuts drain event = early all u drain event

  build_shuts : (drain : DrainState) (event : Event)
      → ShutsIf all u drain event (build_turn all u drain event)
  build_shuts drain (events.Build which) =
      shuts_if all u drain (events.Build which) (same_which which (nth_which u.built)) _
      (λ is. go (u.built == 2))
    where
      go : (b : Bool)
          → Shuts all u drain (events.Build which)
          (if b then record u {
            built = 3;
            iteration = u.iteration + 1;
            target = all;
            size = all - u.done;
          } else record u { built = u.built + 1 }) drain
      go true = keeps all u drain (events.Build which) _ refl refl refl (omega arith) refl
      go false = keeps all u drain (events.Build which) _ refl refl refl (omega arith) refl
  build_shuts drain event = early all u drain event

  verdict_shuts : (now : ℕ) (slow : Bool) (next : Utility) (drain : DrainState)
      (verdict : Verdict) (event : Event) → next.switched ≡ u.switched → next.last ≡ u.last
      → next.written ≡ u.written → u.done ≤ next.done → goes_on event ≡ true
      → ShutsBy all u drain event (verdict_turn all now slow next drain verdict)
  verdict_shuts now slow next drain verdicts.More event s l w d goes =
      keeps all u drain event next s l w d goes
  verdict_shuts now true next drain verdicts.Next event s l w d goes =
      keeps all u drain event _ s l w d goes
  verdict_shuts now false next drain verdicts.Next event s l w d goes =
      keeps all u drain event _ s l w d goes
  verdict_shuts now slow next drain verdicts.Message event s l w d goes =
      keeps all u drain event _ s l w d goes
  verdict_shuts now slow next drain (verdicts.Drain asked) event s l w d goes =
      asks all u drain event _ asked s l w d goes
  verdict_shuts now slow next drain (verdicts.Stop reason) event s l w d goes = tt

  log_shuts : (answer : Answer) (drain : DrainState) (event : Event)
      → ShutsIf all u drain event (log_turn all answer u drain event)
  log_shuts answer drain (events.Log iteration took left verdict) =
      let next : Utility = record u { done = u.done + took } in
      shuts_if all u drain (events.Log iteration took left verdict)
      (iteration == u.iteration
      && (took == min 64 (u.target - u.done)
      && (left == all - next.done && same_verdict verdict (log_verdict left answer next)))) _
      (λ is. verdict_shuts answer.now (is_slow left u.size) next drain verdict
      (events.Log iteration took left verdict) refl refl refl (no_less u.done took) refl)
  log_shuts answer drain event = space_shuts all u drain event

  wait_shuts : (answer : Answer) (drain : DrainState) (asked : DrainFor)
      (verdict : DrainVerdict) (event : Event)
      → ShutsIf all u drain event (wait_turn all answer u drain asked verdict event)
  wait_shuts answer drain asked (waits.Wait session) (events.Wait named) =
      shuts_if all u drain (events.Wait named) (named.0 == session.0) _
      (λ is. keeps all u drain (events.Wait named) _ refl refl refl (omega arith) refl)
  wait_shuts answer drain asked waits.Granted (events.Granted named) =
      shuts_if all u drain (events.Granted named) (same_drain named asked) _
      (λ is. record {
        switched = refl;
        before = λ under. inr refl;
        last = λ last. inl (last, omega arith);
        over = λ no. absurd (cc no);
        written = λ written. inl written;
      })
  wait_shuts answer drain asked waits.GiveUp (events.GiveUp count) =
      shuts_if all u drain (events.GiveUp count) (count == u.failed + 1) _
      (λ is. record {
        switched = refl;
        before = λ under. absurd (cc under);
        last = λ last. absurd (cc last);
        over = λ no. refl;
        written = λ written. absurd (cc written);
      })
  wait_shuts answer drain asked (waits.Stop reason) (events.Stop named) =
      go (same_reason named reason)
    where
      go : (b : Bool)
          → ShutsIf all u drain (events.Stop named)
          (if b then Some Stops else early_stop (events.Stop named))
      go true = tt
      go false = early all u drain (events.Stop named)
  wait_shuts answer drain asked verdict event = early all u drain event

  last_shuts : (granted : DrainFor) (event : Event)
      → ShutsIf all u (drains.Granted granted) event
      (last_turn all u (drains.Granted granted) event)
  last_shuts granted (events.Last took left) =
      shuts_if all u (drains.Granted granted) (events.Last took left)
      (took == min 64 (all - u.done) && left == all - (u.done + took)) _
      (λ is. record {
        switched = refl;
        before = λ under. inl (or_third u.last u.written);
        last = λ last.
            inr (none_left all (u.done + took) left last
            (and_parts (took == min 64 (all - u.done)) (left == all - (u.done + took)) is).1);
        over = λ no. absurd (cc no);
        written = λ written. inl written;
      })
  last_shuts granted event = space_shuts all u (drains.Granted granted) event

  -- a drain was granted before
  writes : (drain : DrainState) (pages : ℕ) (v : Utility) (later : DrainState)
      → is_granted drain ≡ true → v.switched ≡ u.switched → v.last ≡ u.last → u.done ≤ v.done
      → Shuts all u drain (events.Written pages) v later
  writes drain pages v later granted switched last done = record {
    switched = switched;
    before = λ is.
        inl (ap (λ (b : Bool). u.last || (u.written || b)) granted ∙ or_third u.last u.written);
    last = λ is. inl (sym last ∙ is, done);
    over = λ no. absurd (cc no);
    written = λ is. inr refl;
  }

  write_shuts : (answer : Answer) (drain : DrainState) (granted : DrainFor) (event : Event)
      → is_granted drain ≡ true
      → ShutsIf all u drain event (write_turn answer u drain granted event)
  write_shuts answer drain what.Writers (events.Written pages) is =
      writes drain pages _ _ is refl refl (omega arith)
  write_shuts answer drain what.All (events.Written pages) is =
      writes drain pages _ _ is refl refl (omega arith)
  write_shuts answer drain granted event is = early all u drain event

  switch_shuts : (drain : DrainState) (event : Event)
      → ShutsIf all u drain event (switch_turn u event)
  switch_shuts drain (events.Switched other sides) = refl
  switch_shuts drain (events.Stop reasons.Device) = tt
  switch_shuts drain event = early all u drain event

  end_shuts : (drain : DrainState) (event : Event) → ShutsIf all u drain event (end_turn event)
  end_shuts drain events.Ended = tt
  end_shuts drain event = early all u drain event

module _ (all : ℕ) (blocker : Option Session) (answer : Answer) (event : Event) where
  under_shuts : (u : Utility) (granted : DrainFor)
      → ShutsIf all u (drains.Granted granted) event
      (turn_at
      (if not u.last then steps.Last
      else (if not u.written then steps.Write granted else steps.Switch)) all blocker answer u
      (drains.Granted granted) event)
  under_shuts u granted = go u.last u.written
    where
      go : (a b : Bool)
          → ShutsIf all u (drains.Granted granted) event
          (turn_at
          (if not a then steps.Last else (if not b then steps.Write granted else steps.Switch))
          all blocker answer u (drains.Granted granted) event)
      go false b = last_shuts all u granted event
      go true false = write_shuts all u answer (drains.Granted granted) granted event refl
      go true true = switch_shuts all u (drains.Granted granted) event

  drain_shuts : (u : Utility) (drain : DrainState)
      → ShutsIf all u drain event
      (turn_at (step_by_drain u drain) all blocker answer u drain event)
  drain_shuts u drains.Free = log_shuts all u answer drains.Free event
  drain_shuts u (drains.Asked asked) = wait_shuts all u answer (drains.Asked asked) asked
      (drain_verdict u.options u.asked u.failed blocker answer.now answer.estimate) event
  drain_shuts u (drains.Granted granted) = under_shuts u granted

  step_shuts : (u : Utility) (drain : DrainState)
      → ShutsIf all u drain event (turn_at (step_of u drain) all blocker answer u drain event)
  step_shuts u drain = go (nat_lt u.copied u.pages) (nat_lt u.reloaded u.unloaded)
      (nat_lt u.sorted 3) (nat_lt u.built 3)
    where
      go : (a b c d : Bool)
          → ShutsIf all u drain event
          (turn_at
          (if a then steps.Unload else (if b then steps.Reload
          else (if c then steps.Sort else (if d then steps.Build else step_by_drain u drain))))
          all blocker answer u drain event)
      go true b c d = unload_shuts all u drain event
      go false true c d = reload_shuts all u drain event
      go false false true d = sort_shuts all u drain event
      go false false false true = build_shuts all u drain event
      go false false false false = drain_shuts u drain

  altered : (u : Utility) (command : Command) (drain : DrainState) (turn : Option Turn)
      → ShutsIf all (alter u command) drain event turn → ShutsIf all u drain event turn
  altered u (commands.Alter a) drain None shuts = tt
  altered u (commands.Alter a) drain (Some (Runs v later)) shuts = record {
    switched = shuts.switched;
    before = shuts.before;
    last = shuts.last;
    over = shuts.over;
    written = shuts.written;
  }
  altered u (commands.Alter a) drain (Some (Switches other sides v)) shuts = shuts
  altered u (commands.Alter a) drain (Some Stops) shuts = tt
  altered u (commands.Alter a) drain (Some Falls) shuts = tt
  altered u command drain turn shuts = shuts

  turn_shuts : (u : Utility) (drain : DrainState)
      → ShutsIf all u drain event (turn_of all blocker answer u drain event)
  turn_shuts u drain = by_switched u.switched
    where
      v : Utility
      v = alter u answer.command

      term_shuts : (event : Event) → IfSome (term_turn event) (ShutsBy all u drain event)
      term_shuts (events.Stop reasons.Term) = tt
      term_shuts (events.Stop reasons.NoMemory) = tt
      term_shuts event = tt

      by_term : (b : Bool)
          → ShutsIf all u drain event
          (if b then term_turn event
          else turn_at (step_of v drain) all blocker answer v drain event)
      by_term true = term_shuts event
      by_term false = altered u answer.command drain
          (turn_at (step_of v drain) all blocker answer v drain event) (step_shuts v drain)

      by_switched : (b : Bool)
          → ShutsIf all u drain event
          (if b then end_turn event else (if is_term answer.command then term_turn event
          else turn_at (step_of v drain) all blocker answer v drain event))
      by_switched true = end_shuts all u drain event
      by_switched false = by_term (is_term answer.command)

-- ---- an entry

-- the state under a drain, with as many LAST to come
record Under (past : List Entry) (st : State) (u : Utility) : Type 0 where
  pub lasts : ℕ
  pub drained : IsDrained (changes past) past st u lasts
  pub taken : u.last ≡ true → changes past ≤ u.done

-- whatever utility runs under a drain
record IsShut (past : List Entry) (st : State) : Type 0 where
  pub writers : AreWriters past st
  pub rest : IsRest st
  pub under : (u : Utility) → st.utility ≡ Some u → IsUnderDrain u st.drain → Under past st u

plus_none : (n : ℕ) → n + 0 ≡ n
plus_none n = omega arith

-- the same, where the changes are counted alike
under_by : (past : List Entry) (st : State) (u : Utility) (all n : ℕ)
    → IsDrained all past st u n → (u.last ≡ true → all ≤ u.done) → Under past st u
under_by past st u all n drained taken = record {
  lasts = n;
  drained = subst (λ (k : ℕ). IsDrained k past st u n) (sym drained.counted) drained;
  taken = λ last. subst (λ (k : ℕ). k ≤ u.done) (sym drained.counted) (taken last);
}

module _ (past : List Entry) (entry : Entry) (st new : State) (shut : IsShut past st)
    (allowed : Allows past entry.answer entry.actor entry.event st new) where
  -- the entry goes on under a drain
  goes_under : (u : Utility) → st.utility ≡ Some u → IsUnderDrain u st.drain
      → goes_on entry.event ≡ true → (v : Utility) → new.utility ≡ Some v
      → (v.last ≡ true → changes past ≤ v.done) → Under (entry ∷ past) new v
  goes_under u at under goes v is taken =
      let was : Under past st u = shut.under u at under in
      let led = entry_next (changes past) past st new u was.lasts was.drained entry.answer
      entry.actor entry.event goes allowed in
      let next : Next (changes past) entry.event new was.lasts = led.0 in
      let same : next.u ≡ v = one_utility new.utility v next.u is next.utility in
      under_by (entry ∷ past) new v (changes past) next.m
      (record {
        utility = is;
        free = next.free;
        counted = led.1;
        writers = writers_after past entry st new allowed shut.writers;
        way = subst (λ (w : Utility). IsOnWay (changes past) w new.drain next.m) same next.way;
      }) taken

  -- what it leaves is as before
  still : new.utility ≡ st.utility → new.drain ≡ st.drain → goes_on entry.event ≡ true
      → (v : Utility) → new.utility ≡ Some v → IsUnderDrain v new.drain
      → Under (entry ∷ past) new v
  still utility drain goes v is under =
      let at : st.utility ≡ Some v = sym utility ∙ is in
      let before : IsUnderDrain v st.drain = subst (IsUnderDrain v) drain under in
      goes_under v at before goes v is (shut.under v at before).taken

  -- a grant
  granted_under : (u : Utility) → st.utility ≡ Some u → (d : DrainFor)
      → entry.event ≡ events.Granted d → (v : Utility) → new.utility ≡ Some v
      → (v.last ≡ true → changes past ≤ v.done) → Under (entry ∷ past) new v
  granted_under u at d event v is taken =
      let begun = grant_begins past st new u at shut.writers d entry event allowed in
      let same : begun.0 ≡ v = one_utility new.utility v begun.0 is begun.1.utility in
      under_by (entry ∷ past) new v (changes past) (lasts_after (changes past) u)
      (subst
      (λ (w : Utility). IsDrained (changes past) (entry ∷ past) new w
      (lasts_after (changes past) u)) same begun.1) taken

  -- ---- a step of the utility

  runs : (u : Utility) → st.utility ≡ Some u → (v : Utility) (later : DrainState)
      → Shuts (changes past) u st.drain entry.event v later
      → new ≡ record st { drain = later; utility = Some v } → IsUnderDrain v later
      → Under (entry ∷ past) new v
  runs u at v later shuts is under =
      by_before (shuts.before under.drained)
    where
      unswitched : u.switched ≡ false
      unswitched = sym shuts.switched ∙ under.unswitched

      has : new.utility ≡ Some v
      has = ap (λ (s : State). s.utility) is

      more : (a b c : ℕ) → a ≤ b → b ≤ c → a ≤ c
      more a b c le next = omega arith

      taken : v.last ≡ true → changes past ≤ v.done
      taken last = by_last (shuts.last last)
        where
          by_last : ((u.last ≡ true) × (u.done ≤ v.done)) ⊎ (changes past ≤ v.done)
              → changes past ≤ v.done
          by_last (inr all) = all
          by_last (inl before) =
              more (changes past) u.done v.done
              ((shut.under u at (record {
                unswitched = unswitched;
                drained =
                    or_first u.last (u.written || is_granted st.drain) before.0;
              })).taken before.0) before.1

      by_before :
          (is_drained_for u st.drain ≡ true) ⊎ (is_grant entry.event ≡ true)
          → Under (entry ∷ past) new v
      by_before (inr grant) = by_grant (granted_for entry.event grant)
        where
          by_grant : (d : DrainFor) × (entry.event ≡ events.Granted d) → Under (entry ∷ past) new v
          by_grant (d, event) = granted_under u at d event v has taken
      by_before (inl drained) = by_goes (goes_on entry.event) refl
        where
          by_goes : (b : Bool) → goes_on entry.event ≡ b → Under (entry ∷ past) new v
          by_goes false ended =
              absurd (not_true (is_drained_for v later) (shuts.over ended) under.drained)
          by_goes true goes =
              goes_under u at (record { unswitched = unswitched; drained = drained }) goes v has
              taken

  turned : (u : Utility) → st.utility ≡ Some u → (turn : Option Turn)
      → ShutsIf (changes past) u st.drain entry.event turn
      → state_by_turn past st u turn ≡ Some new
      → (v : Utility) → new.utility ≡ Some v → IsUnderDrain v new.drain
      → Under (entry ∷ past) new v
  turned u at None shuts e v has under = absurd (cc e)
  turned u at (Some (Runs w later)) shuts e v has under =
      let is : new ≡ record st { drain = later; utility = Some w } = some_is _ new e in
      let same : v ≡ w = one_utility new.utility w v (ap (λ (s : State). s.utility) is) has in
      subst (Under (entry ∷ past) new) (sym same)
      (runs u at w later shuts is
      (record {
        unswitched = ap (λ (x : Utility). x.switched) (sym same) ∙ under.unswitched;
        drained =
            ap (λ (x : Utility). is_drained_for x later) (sym same)
            ∙ ap (λ (s : State). is_drained_for v s.drain) (sym is)
            ∙ under.drained;
      }))
  turned u at (Some (Switches copy sides w)) shuts e v has under =
      let is : new ≡ record st { copy = copy; drain = drains.Free; utility = Some w } =
      allowed_is _ _ new e in
      let same : v ≡ w = one_utility new.utility w v (ap (λ (s : State). s.utility) is) has in
      absurd
      (not_true v.switched under.unswitched (ap (λ (x : Utility). x.switched) same ∙ shuts))
  turned u at (Some Stops) shuts e v has under =
      absurd (no_utility new.utility v
      (ap (λ (s : State). s.utility) (some_is (stop_utility st) new e)) has)
  turned u at (Some Falls) shuts e v has under =
      absurd (no_utility new.utility v
      (ap (λ (s : State). s.utility)
      (some_is (record (stop_utility st) { down = true; copydoubt = true }) new e)) has)

  stepped : (answer : Option Answer) (o : Option Utility) → st.utility ≡ o
      → state_after_step past answer entry.event st o ≡ Some new
      → (v : Utility) → new.utility ≡ Some v → IsUnderDrain v new.drain
      → Under (entry ∷ past) new v
  stepped answer None at e = absurd (cc e)
  stepped answer (Some u) at e = by_down st.down e
    where
      by_answer : (o : Option Answer) → state_stepped past o entry.event st u ≡ Some new
          → (v : Utility) → new.utility ≡ Some v → IsUnderDrain v new.drain
          → Under (entry ∷ past) new v
      by_answer None e = absurd (cc e)
      by_answer (Some answer) e =
          turned u at
          (turn_of (changes past) (least_holder st.drain st.claims) answer u st.drain entry.event)
          (turn_shuts (changes past) (least_holder st.drain st.claims) answer entry.event u
          st.drain) e

      by_down : (b : Bool)
          → (if b then None else state_stepped past answer entry.event st u) ≡ Some new
          → (v : Utility) → new.utility ≡ Some v → IsUnderDrain v new.drain
          → Under (entry ∷ past) new v
      by_down true e = absurd (cc e)
      by_down false e = by_answer answer e

  -- ---- any entry

  same : (event : Event) → entry.event ≡ event → goes_on event ≡ true → new ≡ st
      → (v : Utility) → new.utility ≡ Some v → IsUnderDrain v new.drain
      → Under (entry ∷ past) new v
  same event at goes is = still (ap (λ (s : State). s.utility) is) (ap (λ (s : State). s.drain) is)
      (ap goes_on at ∙ goes)

  started : (options : Options) (copy pages : ℕ)
      → next_state past entry.answer actors.Utility (events.Started options copy pages) st
      ≡ Some new
      → (v : Utility) → new.utility ≡ Some v → IsUnderDrain v new.drain
      → Under (entry ∷ past) new v
  started options copy pages e v has under =
      let is : new ≡ start_utility st options pages =
      allowed_is _ (start_utility st options pages) new e in
      let same : v ≡ new_utility options pages =
      one_utility new.utility (new_utility options pages) v (ap (λ (s : State). s.utility) is) has
      in
      let none : st.utility ≡ None =
      none_is st.utility
      (and_parts (not (is_some st.utility)) (copy == st.copy)
      (and_parts (not st.down) (not (is_some st.utility) && copy == st.copy)
      (allowed_was _ (start_utility st options pages) new e)).1).0 in
      let free : new.drain ≡ drains.Free = ap (λ (s : State). s.drain) is ∙ shut.rest none in
      absurd
      (not_true (is_drained_for v new.drain)
      (ap (λ (x : Utility). is_drained_for x new.drain) same
      ∙ ap is_granted free) under.drained)

  by_entry : (actor : Actor) (event : Event) → entry.actor ≡ actor → entry.event ≡ event
      → Allows past entry.answer actor event st new
      → (v : Utility) → new.utility ≡ Some v → IsUnderDrain v new.drain
      → Under (entry ∷ past) new v
  by_entry (actors.Session session) (events.Said stmt reply) who at e =
      let kept = said_keeps st new session stmt reply e in
      still kept.0 kept.1 (ap goes_on at)
  by_entry (actors.Session session) event who at e = absurd (cc e)
  by_entry actors.System (events.Opened copy rows pages used) who at e =
      λ v has under. absurd (no_utility new.utility v
      (ap (λ (s : State). s.utility) e.at_rest) has)
  by_entry actors.System (events.Flush page) who at e =
      same (events.Flush page) at refl (allowed_is _ st new e)
  by_entry actors.System events.Clean who at e =
      same events.Clean at refl (allowed_is _ st new e)
  by_entry actors.System events.FlushDevice who at e =
      same events.FlushDevice at refl (allowed_is _ st new e)
  by_entry actors.System events.FlushDown who at e =
      same events.FlushDown at refl (allowed_is _ st new e)
  by_entry actors.System events.FlushNoMemory who at e =
      same events.FlushNoMemory at refl (allowed_is _ st new e)
  by_entry actors.System (events.Layout copy side) who at e =
      same (events.Layout copy side) at refl (allowed_is _ st new e)
  by_entry actors.System events.LayoutDevice who at e =
      same events.LayoutDevice at refl (allowed_is _ st new e)
  by_entry actors.System events.LayoutDown who at e =
      same events.LayoutDown at refl (allowed_is _ st new e)
  by_entry actors.System events.LayoutNoMemory who at e =
      same events.LayoutNoMemory at refl (allowed_is _ st new e)
  by_entry actors.System event who at e = absurd (cc e)
  by_entry actors.Utility (events.Started options copy pages) who at e =
      started options copy pages e
  by_entry actors.Utility events.Active who at e =
      same events.Active at refl (allowed_is _ st new e)
  by_entry actors.Utility (events.StartLogFull need left) who at e =
      same (events.StartLogFull need left) at refl (allowed_is _ st new e)
  by_entry actors.Utility events.StartDown who at e =
      same events.StartDown at refl (allowed_is _ st new e)
  by_entry actors.Utility events.StartNoMemory who at e =
      same events.StartNoMemory at refl (allowed_is _ st new e)
  by_entry actors.Utility events.Idle who at e =
      same events.Idle at refl (allowed_is _ st new e)
  by_entry actors.Utility events.StepDown who at e =
      same events.StepDown at refl (allowed_is _ st new e)
  by_entry actors.Utility event who at e =
      stepped entry.answer st.utility refl
      (ap (λ (x : Event). state_after_step past entry.answer x st st.utility) at ∙ e)

  shut_after : IsShut (entry ∷ past) new
  shut_after = record {
    writers = writers_after past entry st new allowed shut.writers;
    rest = entry_rests past st new shut.rest entry.answer entry.actor entry.event allowed;
    under = by_entry entry.actor entry.event refl refl allowed;
  }

-- ---- a trace

shut_at_first : (table : Table) (copy : ℕ) → IsShut [] (at_rest table copy)
shut_at_first table copy = record {
  writers = writers_at_rest table copy;
  rest = rests_at_first table copy;
  under = λ u at under. absurd (no_utility None u refl at);
}

shut_run : (past trace : List Entry) (st new : State) → IsShut past st → Run past st trace new
    → IsShut (behind past trace) new
shut_run past [] st new shut run = subst (IsShut past) (sym run) shut
shut_run past (entry ∷ trace) st new shut run = shut_run (entry ∷ past) trace run.0 new
    (shut_after past entry st run.0 shut run.1) run.2

unwritten_by : (past : List Entry) (st : State) → AreWriters past st → NoWriter st.claims
    → (session : ℕ) → unit_writes session past ≡ 0
unwritten_by past st writers free session = go (writers session)
  where
    go : (unit_writes session past ≡ 0) ⊎ IsWriter st.claims session
        → unit_writes session past ≡ 0
    go (inl none) = none
    go (inr is) =
        absurd (not_both (has_class (map.get st.claims session) Writer) is (free session))

pub nobody_writes : NobodyWritesUnderDrain
nobody_writes table copy trace st u run at under =
    let shut = shut_run [] trace (at_rest table copy) st (shut_at_first table copy) run in
    let is = shut.under u at under in
    record {
      covers = covered (changes (behind [] trace)) u st.drain is.lasts is.drained.way.turning;
      free = is.drained.free;
      unwritten = unwritten_by (behind [] trace) st shut.writers is.drained.free;
      taken = is.taken;
    }

pub nothing_changes : NothingChangesUnderDrain
nothing_changes past st u session stmt reply new nobody says =
    let writers : AreWriters past st = λ n. inl (nobody.unwritten n) in
    record {
      counted = (said_quiet st new session nobody.free nobody.covers past stmt reply writers
          says).0;
      unwritten = (says_quiet st new session nobody.free nobody.covers stmt reply says).0;
    }

pub written_at_written : WrittenAtWritten
written_at_written all blocker answer u drain event v later e =
    (subst (λ (turn : Option Turn). ShutsIf all u drain event turn) e
    (turn_shuts all blocker answer event u drain)).written

pub turn_unswitched : (all : ℕ) (blocker : Option Session) (answer : Answer) (u : Utility)
    (drain : DrainState) (event : Event) (v : Utility) (later : DrainState)
    → turn_of all blocker answer u drain event ≡ Some (Runs v later) → v.switched ≡ u.switched
turn_unswitched all blocker answer u drain event v later e =
    (subst (λ (turn : Option Turn). ShutsIf all u drain event turn) e
    (turn_shuts all blocker answer event u drain)).switched

pub turn_switched : (all : ℕ) (blocker : Option Session) (answer : Answer) (u : Utility)
    (drain : DrainState) (event : Event) (copy : ℕ) (sides : Sides) (v : Utility)
    → turn_of all blocker answer u drain event ≡ Some (Switches copy sides v)
    → v.switched ≡ true
turn_switched all blocker answer u drain event copy sides v e =
    subst (λ (turn : Option Turn). ShutsIf all u drain event turn) e
    (turn_shuts all blocker answer event u drain)
