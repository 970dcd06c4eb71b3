-- Which turns copy a page.
use Rattle.std.proofs.Common.{◌≡◌, ◌==◌, ◌&&◌, ◌+◌, nat_le, ℕ, Bool, true, false, if◌then◌else◌}
use Rattle.std.proofs.Common.{Option, Some, None, refl, sym, ◌∙◌, ap, subst}
use Rattle.std.proofs.lemmas.Bool.{eqb-true}
use Rattle.rg_base.specs.declared.control.Answer.{Answer}
use Rattle.rg_base.specs.declared.control.Command.{Command}
use Rattle.rg_base.specs.declared.control.Command.TheVariants as commands
use Rattle.rg_base.specs.declared.options.DrainFor.{DrainFor}
use Rattle.rg_base.specs.declared.options.DrainFor.TheVariants as what
use Rattle.rg_base.specs.declared.options.DrainState.{DrainState}
use Rattle.rg_base.specs.declared.session.Session.{Session}
use Rattle.rg_base.specs.declared.step.Step.{Step}
use Rattle.rg_base.specs.declared.step.Step.TheVariants as steps
use Rattle.rg_base.specs.declared.verdict.DrainVerdict.{DrainVerdict}
use Rattle.rg_base.specs.declared.verdict.DrainVerdict.TheVariants as waits
use Rattle.rg_base.specs.declared.verdict.StopReason.{StopReason}
use Rattle.rg_base.specs.declared.verdict.StopReason.TheVariants as reasons
use Rattle.rg_base.specs.declared.verdict.Verdict.{Verdict}
use Rattle.rg_base.specs.declared.verdict.Verdict.TheVariants as verdicts
use Rattle.rg_feed.specs.declared.fold.item.Stage.{Stage}
use Rattle.rg_model.specs.Same.{same_reason}
use Rattle.rg_model.specs.State.{Utility}
use Rattle.rg_model.specs.Turn.{Turn, Runs, Switches, Stops, Falls, alter, build_turn, early_stop}
use Rattle.rg_model.specs.Turn.{end_turn, is_term, last_turn, log_turn, next_iteration, reload_turn}
use Rattle.rg_model.specs.Turn.{sort_turn, space_stop, step_of, switch_turn, term_turn, turn_at}
use Rattle.rg_model.specs.Turn.{turn_if, turn_of, unload_turn, verdict_turn, wait_turn, write_turn}
use Rattle.rg_model.specs.Verdict.{drain_verdict, is_slow}
use Rattle.rg_engine.specs.ChangeFeed.Laws.{CopiesNext}
use Rattle.rg_engine.specs.ChangeFeed.Sending.{SameCopies}
use Rattle.rg_rules.specs.Stage.Followed.{Followed}
use Rattle.rg_rules.specs.Stage.NumbersOf.{numbers_of}
use Rattle.rg_stmt.specs.declared.event.Event.{Event}
use Rattle.rg_stmt.specs.declared.event.Event.TheVariants as events
use Rattle.rg_laws_utility.specs.TraceStage.Tending.{is_booked, is_plain}
use Rattle.rg_laws_utility.proofs.TraceStageLemmas.Turning.{alter_switched}

pub alter_pages : (u : Utility) (command : Command) → (alter u command).pages ≡ u.pages
alter_pages u (commands.Alter a) = refl
alter_pages u command = refl

pub alter_copied : (u : Utility) (command : Command) → (alter u command).copied ≡ u.copied
alter_copied u (commands.Alter a) = refl
alter_copied u command = refl

pub alter_unloaded : (u : Utility) (command : Command) → (alter u command).unloaded ≡ u.unloaded
alter_unloaded u (commands.Alter a) = refl
alter_unloaded u command = refl

-- ---- a turn that copies none

module _ (pages copied unloaded : ℕ) (switched : Bool) where
  -- what goes on has so many pages, of which so many are copied
  abbrev Stays : Turn → Type 0
  Stays (Runs v drain) =
      (v.pages ≡ pages) × (v.copied ≡ copied) × (v.unloaded ≡ unloaded) × (v.switched ≡ switched)
  Stays turn = Unit {0}

  abbrev StaysIf : Option Turn → Type 0
  StaysIf None = Unit {0}
  StaysIf (Some turn) = Stays turn

  -- the numbers of a step
  abbrev IsSo : Utility → Type 0
  IsSo u =
      (u.pages ≡ pages) × (u.copied ≡ copied) × (u.unloaded ≡ unloaded) × (u.switched ≡ switched)

  stays_if : (b : Bool) (turn : Turn) → Stays turn → StaysIf (turn_if b turn)
  stays_if true turn stays = stays
  stays_if false turn stays = tt

  early_stays : (event : Event) → StaysIf (early_stop event)
  early_stays (events.Stop reasons.Device) = tt
  early_stays (events.Stop reasons.NoMemory) = tt
  early_stays event = tt

  space_stays : (event : Event) → StaysIf (space_stop event)
  space_stays (events.Stop reasons.NoSpace) = tt
  space_stays event = early_stays event

  end_stays : (event : Event) → StaysIf (end_turn event)
  end_stays events.Ended = tt
  end_stays event = early_stays event

  term_stays : (event : Event) → StaysIf (term_turn event)
  term_stays (events.Stop reasons.Term) = tt
  term_stays (events.Stop reasons.NoMemory) = tt
  term_stays event = tt

  unload_stays : (u : Utility) (drain : DrainState) (event : Event) → is_booked event ≡ true
      → StaysIf (unload_turn u drain event)
  unload_stays u drain (events.Unload page rows) booked = absurd (cc (booked))
  unload_stays u drain event booked = early_stays event

  reload_stays : (u : Utility) (drain : DrainState) (event : Event) → IsSo u
      → StaysIf (reload_turn u drain event)
  reload_stays u drain (events.Reload page rows) so = stays_if _ _ so
  reload_stays u drain event so = space_stays event

  sort_stays : (u : Utility) (drain : DrainState) (event : Event) → IsSo u
      → StaysIf (sort_turn u drain event)
  sort_stays u drain (events.Sort which) so = stays_if _ _ so
  sort_stays u drain event so = early_stays event

  build_stays : (all : ℕ) (u : Utility) (drain : DrainState) (event : Event) → IsSo u
      → StaysIf (build_turn all u drain event)
  build_stays all u drain (events.Build which) so = stays_if _ _ (built (u.built == 2))
    where
      built : (b : Bool)
          → Stays
          (Runs
          (if b then next_iteration all (record u { built = 3 })
          else record u { built = u.built + 1 }) drain)
      built true = so
      built false = so
  build_stays all u drain event so = early_stays event

  verdict_stays : (all now : ℕ) (slow : Bool) (u : Utility) (drain : DrainState) (verdict : Verdict)
      → IsSo u → Stays (verdict_turn all now slow u drain verdict)
  verdict_stays all now slow u drain verdicts.More so = so
  verdict_stays all now slow u drain verdicts.Next so = next slow
    where
      next : (b : Bool)
          → Stays (Runs (next_iteration all (if b then u else record u { message = None })) drain)
      next true = so
      next false = so
  verdict_stays all now slow u drain verdicts.Message so = so
  verdict_stays all now slow u drain (verdicts.Drain asked) so = so
  verdict_stays all now slow u drain (verdicts.Stop reason) so = tt

  log_stays : (all : ℕ) (answer : Answer) (u : Utility) (drain : DrainState) (event : Event)
      → IsSo u → StaysIf (log_turn all answer u drain event)
  log_stays all answer u drain (events.Log iteration took left verdict) so = stays_if _ _
      (verdict_stays all answer.now (is_slow left u.size) (record u { done = u.done + took }) drain
      verdict so)
  log_stays all answer u drain event so = space_stays event

  stop_stays : (b : Bool) (named : StopReason)
      → StaysIf (if b then Some Stops else early_stop (events.Stop named))
  stop_stays true named = tt
  stop_stays false named = early_stays (events.Stop named)

  wait_stays : (all : ℕ) (answer : Answer) (u : Utility) (drain : DrainState) (asked : DrainFor)
      (verdict : DrainVerdict) (event : Event)
      → IsSo u → StaysIf (wait_turn all answer u drain asked verdict event)
  wait_stays all answer u drain asked (waits.Wait session) (events.Wait named) so = stays_if _ _ so
  wait_stays all answer u drain asked (waits.Wait session) event so = early_stays event
  wait_stays all answer u drain asked waits.Granted (events.Granted named) so = stays_if _ _ so
  wait_stays all answer u drain asked waits.Granted event so = early_stays event
  wait_stays all answer u drain asked waits.GiveUp (events.GiveUp count) so = stays_if _ _ so
  wait_stays all answer u drain asked waits.GiveUp event so = early_stays event
  wait_stays all answer u drain asked (waits.Stop reason) (events.Stop named) so =
      stop_stays (same_reason named reason) named
  wait_stays all answer u drain asked (waits.Stop reason) event so = early_stays event

  last_stays : (all : ℕ) (u : Utility) (drain : DrainState) (event : Event) → IsSo u
      → StaysIf (last_turn all u drain event)
  last_stays all u drain (events.Last took left) so = stays_if _ _ so
  last_stays all u drain event so = space_stays event

  write_stays :
      (answer : Answer) (u : Utility) (drain : DrainState) (granted : DrainFor) (event : Event)
      → IsSo u → StaysIf (write_turn answer u drain granted event)
  write_stays answer u drain what.Writers (events.Written pages) so = so
  write_stays answer u drain what.All (events.Written pages) so = so
  write_stays answer u drain granted event so = early_stays event

  switch_stays : (u : Utility) (event : Event) → StaysIf (switch_turn u event)
  switch_stays u (events.Switched copy sides) = tt
  switch_stays u (events.Stop reasons.Device) = tt
  switch_stays u event = early_stays event

  at_stays : (step : Step) (all : ℕ) (blocker : Option Session) (answer : Answer) (u : Utility)
      (drain : DrainState) (event : Event)
      → is_booked event ≡ true → IsSo u → StaysIf (turn_at step all blocker answer u drain event)
  at_stays steps.Unload all blocker answer u drain event booked so =
      unload_stays u drain event booked
  at_stays steps.Reload all blocker answer u drain event booked so = reload_stays u drain event so
  at_stays steps.Sort all blocker answer u drain event booked so = sort_stays u drain event so
  at_stays steps.Build all blocker answer u drain event booked so = build_stays all u drain event so
  at_stays steps.Log all blocker answer u drain event booked so =
      log_stays all answer u drain event so
  at_stays (steps.Wait asked) all blocker answer u drain event booked so =
      wait_stays all answer u drain asked
      (drain_verdict u.options u.asked u.failed blocker answer.now answer.estimate) event so
  at_stays steps.Last all blocker answer u drain event booked so = last_stays all u drain event so
  at_stays (steps.Write granted) all blocker answer u drain event booked so =
      write_stays answer u drain granted event so
  at_stays steps.Switch all blocker answer u drain event booked so = switch_stays u event
  at_stays steps.End all blocker answer u drain event booked so = end_stays event

turn_stays : (all : ℕ) (blocker : Option Session) (answer : Answer) (s : Stage) (event : Event)
    → is_booked event ≡ true
    → StaysIf s.pages s.copied s.unloaded s.switched
    (turn_of all blocker answer (numbers_of s) s.drain event)
turn_stays all blocker answer s event booked = by_switched s.switched
  where
    by_term : (b : Bool)
        → StaysIf s.pages s.copied s.unloaded s.switched
        (if b then term_turn event
        else turn_at (step_of (alter (numbers_of s) answer.command) s.drain) all blocker answer
        (alter (numbers_of s) answer.command) s.drain event)
    by_term true = term_stays s.pages s.copied s.unloaded s.switched event
    by_term false =
        at_stays s.pages s.copied s.unloaded s.switched
        (step_of (alter (numbers_of s) answer.command) s.drain) all blocker answer
        (alter (numbers_of s) answer.command) s.drain event booked (
          alter_pages (numbers_of s) answer.command,
          alter_copied (numbers_of s) answer.command,
          alter_unloaded (numbers_of s) answer.command,
          alter_switched (numbers_of s) answer.command,
        )

    by_switched : (b : Bool)
        → StaysIf s.pages s.copied s.unloaded s.switched
        (if b then end_turn event else (if is_term answer.command then term_turn event
        else turn_at (step_of (alter (numbers_of s) answer.command) s.drain) all blocker answer
        (alter (numbers_of s) answer.command) s.drain event))
    by_switched true = end_stays s.pages s.copied s.unloaded s.switched event
    by_switched false = by_term (is_term answer.command)

same_pages : (s : Stage) (turn : Turn) (next : Option Stage)
    → Stays s.pages s.copied s.unloaded s.switched turn → is_plain (Some turn) ≡ true
    → Followed turn next → SameCopies (Some s) next
same_pages s turn None stays plain followed = tt
same_pages s (Runs v drain) (Some t) stays plain followed = (
  ap (λ (w : Utility). w.pages) followed.0 ∙ stays.0,
  ap (λ (w : Utility). w.copied) followed.0 ∙ stays.1,
  ap (λ (w : Utility). w.unloaded) followed.0 ∙ stays.2,
  λ unswitched. sym stays.3 ∙ ap (λ (w : Utility). w.switched) (sym followed.0) ∙ unswitched,
)
same_pages s (Switches copy sides v) (Some t) stays plain followed = absurd (cc (plain))
same_pages s Stops (Some t) stays plain followed = absurd followed
same_pages s Falls (Some t) stays plain followed = absurd followed

pub booked_copies_none : (all : ℕ) (blocker : Option Session) (answer : Answer) (s : Stage)
    (event : Event) (turn : Turn) (next : Option Stage)
    → turn_of all blocker answer (numbers_of s) s.drain event ≡ Some turn
    → is_booked event ≡ true → is_plain (Some turn) ≡ true → Followed turn next
    → SameCopies (Some s) next
booked_copies_none all blocker answer s event turn next is booked plain followed =
    same_pages s turn next
    (subst (StaysIf s.pages s.copied s.unloaded s.switched) is
    (turn_stays all blocker answer s event booked)) plain followed

-- ---- UNLOAD

module _ (pages copied unloaded : ℕ) (switched : Bool) (page rows : ℕ) where
  -- it copies the next page
  abbrev Copies : Turn → Type 0
  Copies (Runs v drain) = (page ≡ copied + 1)
      × ((v.pages ≡ pages) × (v.copied ≡ copied + 1) × (v.unloaded ≡ unloaded + rows)
      × (v.switched ≡ switched))
  Copies turn = ⊥

  abbrev CopiesIf : Option Turn → Type 0
  CopiesIf None = Unit {0}
  CopiesIf (Some turn) = Copies turn

  copies_by : (u : Utility) (drain : DrainState) → IsSo pages copied unloaded switched u
      → (b c : Bool) → (page == u.copied + 1) ≡ b
      → CopiesIf
      (turn_if (b && c) (Runs (record u { copied = page; unloaded = u.unloaded + rows }) drain))
  copies_by u drain so true true e =
      let is : page ≡ copied + 1 = eqb-true page (u.copied + 1) e ∙ ap (λ (n : ℕ). n + 1) so.1 in
      (is, (so.0, is, ap (λ (n : ℕ). n + rows) so.2, so.3))
  copies_by u drain so true false e = tt
  copies_by u drain so false c e = tt

  wait_none : (all : ℕ) (answer : Answer) (u : Utility) (drain : DrainState) (asked : DrainFor)
      (verdict : DrainVerdict)
      → CopiesIf (wait_turn all answer u drain asked verdict (events.Unload page rows))
  wait_none all answer u drain asked (waits.Wait session) = tt
  wait_none all answer u drain asked waits.Granted = tt
  wait_none all answer u drain asked waits.GiveUp = tt
  wait_none all answer u drain asked (waits.Stop reason) = tt

  at_copies : (step : Step) (all : ℕ) (blocker : Option Session) (answer : Answer) (u : Utility)
      (drain : DrainState) → IsSo pages copied unloaded switched u
      → CopiesIf (turn_at step all blocker answer u drain (events.Unload page rows))
  at_copies steps.Unload all blocker answer u drain so =
      copies_by u drain so (page == u.copied + 1) (nat_le rows 225) refl
  at_copies (steps.Wait asked) all blocker answer u drain so = wait_none all answer u drain asked
      (drain_verdict u.options u.asked u.failed blocker answer.now answer.estimate)
  at_copies steps.Reload all blocker answer u drain so = tt
  at_copies steps.Sort all blocker answer u drain so = tt
  at_copies steps.Build all blocker answer u drain so = tt
  at_copies steps.Log all blocker answer u drain so = tt
  at_copies steps.Last all blocker answer u drain so = tt
  at_copies (steps.Write granted) all blocker answer u drain so = tt
  at_copies steps.Switch all blocker answer u drain so = tt
  at_copies steps.End all blocker answer u drain so = tt

copied_one : (s : Stage) (page rows : ℕ) (turn : Turn) (next : Option Stage)
    → Copies s.pages s.copied s.unloaded s.switched page rows turn → s.switched ≡ false
    → Followed turn next → CopiesNext s page rows next
copied_one s page rows (Runs v drain) (Some t) copies unswitched followed = record {
  stage = t;
  stage_is = refl;
  unswitched = unswitched;
  page_is = copies.0;
  one = (
    ap (λ (w : Utility). w.pages) followed.0 ∙ copies.1.0,
    ap (λ (w : Utility). w.copied) followed.0 ∙ copies.1.1,
    ap (λ (w : Utility). w.unloaded) followed.0 ∙ copies.1.2,
    ap (λ (w : Utility). w.switched) followed.0 ∙ copies.1.3,
  );
}
copied_one s page rows (Runs v drain) None copies unswitched followed = absurd followed
copied_one s page rows (Switches copy sides v) next copies unswitched followed = absurd copies
copied_one s page rows Stops next copies unswitched followed = absurd copies
copied_one s page rows Falls next copies unswitched followed = absurd copies

pub unload_copies : (all : ℕ) (blocker : Option Session) (answer : Answer) (s : Stage)
    (page rows : ℕ) (turn : Turn) (next : Option Stage)
    → turn_of all blocker answer (numbers_of s) s.drain (events.Unload page rows) ≡ Some turn
    → Followed turn next
    → CopiesNext s page rows next
unload_copies all blocker answer s page rows turn next is followed = by_switched s.switched refl is
  where
    by_term : (b : Bool) → s.switched ≡ false
        → (if b then term_turn (events.Unload page rows)
        else turn_at (step_of (alter (numbers_of s) answer.command) s.drain) all blocker answer
        (alter (numbers_of s) answer.command) s.drain (events.Unload page rows)) ≡ Some turn
        → CopiesNext s page rows next
    by_term true unswitched e = absurd (cc (e))
    by_term false unswitched e =
        copied_one s page rows turn next
        (subst (CopiesIf s.pages s.copied s.unloaded s.switched page rows) e
        (at_copies s.pages s.copied s.unloaded s.switched page rows
        (step_of (alter (numbers_of s) answer.command) s.drain) all blocker answer
        (alter (numbers_of s) answer.command) s.drain (
          alter_pages (numbers_of s) answer.command,
          alter_copied (numbers_of s) answer.command,
          alter_unloaded (numbers_of s) answer.command,
          alter_switched (numbers_of s) answer.command,
        )))
        unswitched followed

    by_switched : (b : Bool) → s.switched ≡ b
        → (if b then end_turn (events.Unload page rows)
        else (if is_term answer.command then term_turn (events.Unload page rows)
        else turn_at (step_of (alter (numbers_of s) answer.command) s.drain) all blocker answer
        (alter (numbers_of s) answer.command) s.drain (events.Unload page rows))) ≡ Some turn
        → CopiesNext s page rows next
    by_switched true is e = absurd (cc (e))
    by_switched false is e = by_term (is_term answer.command) is e
