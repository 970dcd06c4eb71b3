-- What each event asks of what is made, and what it leaves of it.
use Rattle.std.proofs.Common.{◌≡◌, ◌≤◌, ◌<◌, ◌+◌, ◌-◌, min, inl, inr, ◌⊎◌, ℕ, Bool, true, false}
use Rattle.std.proofs.Common.{Option, Some, None, if◌then◌else◌, ◌==◌, refl, sym, ◌∙◌, ap, subst}
use Rattle.std.proofs.Common.{arith}
use Rattle.std.proofs.lemmas.Bool.Decides.{nat_tests}
use Rattle.rg_base.specs.declared.control.Answer.{Answer}
use Rattle.rg_base.specs.declared.options.DrainFor.{DrainFor}
use Rattle.rg_base.specs.declared.options.DrainFor.TheVariants as what
use Rattle.rg_base.specs.declared.options.DrainState.{DrainState}
use Rattle.rg_base.specs.declared.options.DrainState.TheVariants as drains
use Rattle.rg_base.specs.declared.options.Options.{Options}
use Rattle.rg_base.specs.declared.session.Session.{Session}
use Rattle.rg_base.specs.declared.step.Step.{Step}
use Rattle.rg_base.specs.declared.step.Step.TheVariants as steps
use Rattle.rg_base.specs.declared.verdict.StopReason.{StopReason}
use Rattle.rg_base.specs.declared.verdict.Verdict.{Verdict}
use Rattle.rg_base.specs.declared.verdict.Verdict.TheVariants as verdicts
use Rattle.rg_base.specs.declared.which.Which.{Which}
use Rattle.rg_desk.specs.Desk.{HasTaken}
use Rattle.rg_desk.specs.declared.task.Task.{Task}
use Rattle.rg_engine.specs.Prepared.{PreparedSeen}
use Rattle.rg_feed.specs.Ends.{Received}
use Rattle.rg_laws_utility.specs.TraceStage.Tending.{FollowsBy, IsForAll, is_booked, is_plain}
use Rattle.rg_laws_utility.proofs.TraceStageLemmas.Switching.{plain_turn}
use Rattle.rg_model.specs.State.{Utility}
use Rattle.rg_model.specs.Turn.{Turn, Runs, Stops, alter, build_next, give_up, next_iteration}
use Rattle.rg_model.specs.Turn.{nth_which}
use Rattle.rg_model.specs.Turn.{end_turn, is_term, step_of, term_turn, turn_at, turn_of}
use Rattle.rg_model.specs.Turn.{verdict_turn}
use Rattle.rg_model.specs.Verdict.{is_slow}
use Rattle.std.specs.Prelude.{IfOk, OnOk, Ok, Err}
use Rattle.std.specs.declared.result.Result.{Result}
use Rattle.rg_feed.specs.declared.fold.item.Stage.{Stage}
use Rattle.rg_reload.specs.declared.fault.ReloadFault.{ReloadFault}
use Rattle.rg_reload.specs.declared.packer.Filled.{Filled}
use Rattle.rg_rules.specs.Stage.Followed.{Followed}
use Rattle.rg_shadow.specs.declared.fault.ShadowFault.{ShadowFault}
use Rattle.rg_base.specs.declared.verdict.StopReason.TheVariants as reasons
use Rattle.rg_rules.specs.Stage.NumbersOf.{numbers_of}
use Rattle.rg_stmt.specs.declared.event.Event.{Event}
use Rattle.rg_stmt.specs.declared.event.Event.TheVariants as events
use Rattle.rg_phase.specs.Made.{EventMakes, IsAsMade, Keeps, PacksAlike, StepMakes, TaskMakes}
use Rattle.rg_phase.specs.Made.{TurnMakes}
use Rattle.rg_phase.specs.Made.{after_back, after_build, after_sort, after_take, numbers_in}
use Rattle.rg_phase.specs.Made.{after_reload, after_write}
use Rattle.rg_phase.specs.Working.{IsDueAt, IsIndexed}
use Rattle.rg_phase.specs.declared.made.Made.{Made}
use Rattle.rg_phase.specs.Working.{IsEventOrStop, IsOver, IsPageOf, MakesStep, is_filling}
use Rattle.rg_phase.proofs.Due.{altered, due, due_for}
use Rattle.rg_phase.proofs.Stops.{turn_is}
use Rattle.rg_phase.proofs.Moving.{SameMaking, none_kept, step_moved}
use Rattle.rg_phase.proofs.Turned.{back_turns, build_turns, end_stops, ended_turns, grant_turns}
use Rattle.rg_phase.proofs.Turned.{if_some}
use Rattle.rg_phase.proofs.Turned.{last_turns, log_turns}
use Rattle.rg_phase.proofs.Turned.{opened_turn, sort_turns, stop_turns, term_ends, term_stops}
use Rattle.rg_phase.proofs.Turned.{wait_turns}

some_is : {a b : Turn} → Some a ≡ Some b → a ≡ b
some_is e = cc (e)

least : (m n : ℕ) → min m n ≤ n
least m n = omega (arith)

-- ---- by the numbers that a turn leaves

-- numbers that what is made does not go by
pub same_other : (u : Utility) (d e : DrainState) (iteration target size asked failed : ℕ)
    (gave_up message : Option ℕ)
    → (u.last ≡ true → IsForAll d → IsForAll e)
    → SameMaking u d
    (record u {
      iteration = iteration;
      target = target;
      size = size;
      asked = asked;
      failed = failed;
      gave_up = gave_up;
      message = message;
    }) e
same_other u d e iteration target size asked failed gave_up message kept = record {
  pages = refl;
  copied = refl;
  unloaded = refl;
  reloaded = refl;
  filled = refl;
  sorted = refl;
  built = refl;
  done = refl;
  written = refl;
  switched = refl;
  alike = record { pctfree = refl; freepage = refl };
  kept = λ last all. (last, refl, kept last all);
}

module _ (all : ℕ) where
  same_iteration : (u : Utility) (d : DrainState) → SameMaking u d (next_iteration all u) d
  same_iteration u d = same_other u d d (u.iteration + 1) all (all - u.done) u.asked u.failed
      u.gave_up u.message (λ last for_all. for_all)

  same_cleared : (u : Utility) (d : DrainState) (message : Option ℕ)
      → SameMaking u d (next_iteration all (record u { message = message })) d
  same_cleared u d message = same_other u d d (u.iteration + 1) all (all - u.done) u.asked u.failed
      u.gave_up message (λ last for_all. for_all)

  built_on : (u : Utility) (d : DrainState) (copy capacity : ℕ) (made : Made)
      (kept : Option PreparedSeen) (inlet : Received)
      → StepMakes (after_build u) d copy capacity made kept inlet
      → StepMakes (build_next all u) d copy capacity made kept inlet
  built_on u d copy capacity made kept inlet makes =
      by_test (u.built == 2) (λ e. grind (arith, nat_tests, e))
    where
      by_test : (b : Bool) → (b ≡ true → u.built ≡ 2)
          → StepMakes
          (if b then next_iteration all (record u { built = 3 })
          else record u { built = u.built + 1 })
          d copy capacity made kept inlet
      by_test true is =
          let at : StepMakes (record u { built = 3 }) d copy capacity made kept inlet =
          subst
          (λ (n : ℕ). StepMakes (record u { built = n }) d copy capacity made kept inlet)
          (ap (λ (n : ℕ). n + 1) (is refl)) makes in
          step_moved (record u { built = 3 }) d (next_iteration all (record u { built = 3 })) d
          (same_iteration (record u { built = 3 }) d) copy capacity made kept inlet at
      by_test false is = makes

  logged_on : (now : ℕ) (slow : Bool) (u : Utility) (d : DrainState) (copy capacity : ℕ)
      (made : Made) (kept : Option PreparedSeen) (inlet : Received) (verdict : Verdict)
      → d ≡ drains.Free → StepMakes u d copy capacity made kept inlet
      → TurnMakes (verdict_turn all now slow u d verdict) copy capacity made kept inlet
  logged_on now slow u d copy capacity made kept inlet verdicts.More free makes = makes
  logged_on now true u d copy capacity made kept inlet verdicts.Next free makes =
      step_moved u d (next_iteration all u) d (same_iteration u d) copy capacity made kept inlet
      makes
  logged_on now false u d copy capacity made kept inlet verdicts.Next free makes =
      step_moved u d (next_iteration all (record u { message = None })) d (same_cleared u d None)
      copy capacity made kept inlet makes
  logged_on now slow u d copy capacity made kept inlet verdicts.Message free makes =
      step_moved u d (next_iteration all (record u { message = Some now })) d
      (same_cleared u d (Some now)) copy capacity made kept inlet makes
  logged_on now slow u d copy capacity made kept inlet (verdicts.Drain asked) free makes =
      step_moved u d (record u { asked = now }) (drains.Asked asked)
      (same_other u d (drains.Asked asked) u.iteration u.target u.size now u.failed u.gave_up
      u.message (λ last for_all. absurd (subst IsForAll free for_all)))
      copy capacity made kept inlet makes
  logged_on now slow u d copy capacity made kept inlet (verdicts.Stop reason) free makes = tt

  last_on : (u : Utility) (took : ℕ) (last : Bool) (d : DrainState) (copy capacity : ℕ)
      (made : Made) (kept : Option PreparedSeen) (inlet : Received) → u.last ≡ false
      → StepMakes (after_take took u) d copy capacity made kept inlet
      → StepMakes (record u { target = all; done = u.done + took; last = last }) d copy capacity
      made kept inlet
  last_on u took last d copy capacity made kept inlet never makes =
      step_moved (after_take took u) d
      (record u { target = all; done = u.done + took; last = last }) d
      (record {
        pages = refl;
        copied = refl;
        unloaded = refl;
        reloaded = refl;
        filled = refl;
        sorted = refl;
        built = refl;
        done = refl;
        written = refl;
        switched = refl;
        alike = record { pctfree = refl; freepage = refl };
        kept = λ is for_all. absurd (cc (is, never));
      })
      copy capacity made kept inlet makes

  back_on : (now : ℕ) (u : Utility) (d : DrainState) (copy capacity : ℕ)
      (made : Made) (kept : Option PreparedSeen) (inlet : Received)
      → StepMakes (after_back u) d copy capacity made kept inlet
      → StepMakes (give_up all now u) drains.Free copy capacity made kept inlet
  back_on now u d copy capacity made kept inlet makes =
      step_moved (after_back u) d (give_up all now u) drains.Free
      (same_other (after_back u) d drains.Free (u.iteration + 1) all (all - u.done) u.asked
      (u.failed + 1) (Some now) u.message (λ last for_all. absurd (cc (last))))
      copy capacity made kept inlet makes

asked_all : (asked : DrainFor) → IsForAll (drains.Asked asked) → IsForAll (drains.Granted asked)
asked_all what.Writers all = absurd all
asked_all what.All all = tt

granted_on : (u : Utility) (d : DrainState) (asked : DrainFor) (copy capacity : ℕ)
    (made : Made) (kept : Option PreparedSeen) (inlet : Received) → d ≡ drains.Asked asked
    → StepMakes u d copy capacity made kept inlet
    → StepMakes u (drains.Granted asked) copy capacity made kept inlet
granted_on u d asked copy capacity made kept inlet is makes =
    step_moved u d u (drains.Granted asked)
    (same_other u d (drains.Granted asked) u.iteration u.target u.size u.asked u.failed u.gave_up
    u.message (λ last for_all. asked_all asked (subst IsForAll is for_all)))
    copy capacity made kept inlet makes

module _ (task : Task) (unswitched : task.stage.switched ≡ false) where
  -- the event is the next one
  abbrev pub IsNext : Event → Type 0
  IsNext event = is_plain
      (turn_of task.changes task.holder task.answer (numbers_of task.stage) task.stage.drain event)
      ≡ true

  opened_to : (event : Event) (turn : Turn)
      → turn_of task.changes task.holder task.answer (numbers_of task.stage) task.stage.drain event
      ≡ Some turn
      → (term_turn event ≡ Some turn)
      ⊎ (turn_at (step_of (numbers_in task) task.stage.drain) task.changes task.holder task.answer
      (numbers_in task) task.stage.drain event ≡ Some turn)
  opened_to event turn e =
      opened_turn task.changes task.holder task.answer (numbers_of task.stage) task.stage.drain
      event turn unswitched e

  due_at : (step : Step) → step_of (numbers_in task) task.stage.drain ≡ step
      → IsDueAt step (numbers_in task) task.stage.drain
  due_at step is = subst (λ (x : Step). IsDueAt x (numbers_in task) task.stage.drain) is
      (due (numbers_in task) task.stage.drain)

  -- no new copy is kept where the drain for ALL is not in force, or changes are still taken
  pub kept_none : (made : Made) (kept : Option PreparedSeen) (inlet : Received)
      → ((options : Options) (p : PreparedSeen)
      → Keeps (numbers_in task) task.stage.drain options p → ⊥)
      → TaskMakes task made kept inlet → kept ≡ None
  kept_none made kept inlet never makes =
      none_kept (numbers_in task) task.stage.drain task.copy task.capacity made kept inlet never
      makes.made_is

  -- ---- SORT

  pub sort_due : (which : Which) → IsNext (events.Sort which)
      → IsDueAt steps.Sort (numbers_in task) task.stage.drain
      × (which ≡ nth_which (numbers_in task).sorted)
  sort_due which next =
      let has = plain_turn _ next in
      elim (opened_to (events.Sort which) has.0 has.1) [
        | inl e ↦ absurd (cc (e))
        | inr e ↦
            let is = sort_turns task.changes task.holder task.answer (numbers_in task)
            task.stage.drain _ which has.0 e in
            (due_at steps.Sort is.0, is.1)
      ]

  pub sort_makes : (which : Which) (made : Made) (kept : Option PreparedSeen) (inlet : Received)
      → StepMakes (after_sort (numbers_in task)) task.stage.drain task.copy task.capacity made kept
      inlet
      → EventMakes task (events.Sort which) made kept inlet
  sort_makes which made kept inlet makes = λ turn e.
      elim (opened_to (events.Sort which) turn e) [
        | inl e ↦ absurd (cc (e))
        | inr e ↦
            subst (λ (t : Turn). TurnMakes t task.copy task.capacity made kept inlet)
            (sym
            (sort_turns task.changes task.holder task.answer (numbers_in task) task.stage.drain _
            which turn e).2) makes
      ]

  -- ---- BUILD

  pub build_due : (which : Which) → IsNext (events.Build which)
      → IsDueAt steps.Build (numbers_in task) task.stage.drain
      × (which ≡ nth_which (numbers_in task).built)
  build_due which next =
      let has = plain_turn _ next in
      elim (opened_to (events.Build which) has.0 has.1) [
        | inl e ↦ absurd (cc (e))
        | inr e ↦
            let is = build_turns task.changes task.holder task.answer (numbers_in task)
            task.stage.drain _ which has.0 e in
            (due_at steps.Build is.0, is.1)
      ]

  pub build_makes : (which : Which) (made : Made) (kept : Option PreparedSeen) (inlet : Received)
      → StepMakes (after_build (numbers_in task)) task.stage.drain task.copy task.capacity made kept
      inlet
      → EventMakes task (events.Build which) made kept inlet
  build_makes which made kept inlet makes = λ turn e.
      elim (opened_to (events.Build which) turn e) [
        | inl e ↦ absurd (cc (e))
        | inr e ↦
            subst (λ (t : Turn). TurnMakes t task.copy task.capacity made kept inlet)
            (sym
            (build_turns task.changes task.holder task.answer (numbers_in task) task.stage.drain _
            which turn e).2)
            (built_on task.changes (numbers_in task) task.stage.drain task.copy task.capacity made
            kept inlet makes)
      ]

  -- ---- LOG and LAST

  done_same : (numbers_in task).done ≡ task.stage.done
  done_same = ap (λ (v : Utility). v.done)
      (altered (numbers_of task.stage) task.answer.command).same

  target_same : (numbers_in task).target ≡ task.stage.target
  target_same = ap (λ (v : Utility). v.target)
      (altered (numbers_of task.stage) task.answer.command).same

  pub log_due : (iteration took left : ℕ) (verdict : Verdict) → HasTaken task.changes task.stage
      → IsNext (events.Log iteration took left verdict)
      → IsIndexed (numbers_in task) × (task.stage.drain ≡ drains.Free)
      × ((numbers_in task).done + took ≤ task.changes)
  log_due iteration took left verdict taken next =
      let has = plain_turn _ next in
      elim (opened_to (events.Log iteration took left verdict) has.0 has.1) [
        | inl e ↦ absurd (cc (e))
        | inr e ↦
            let is = log_turns task.changes task.holder task.answer (numbers_in task)
            task.stage.drain _ iteration took left verdict has.0 e in
            let due = due_at steps.Log is.0 in (
              due.0,
              due.1,
              omega (
                arith,
                is.1,
                least 64 ((numbers_in task).target - (numbers_in task).done),
                taken.done,
                taken.target,
                done_same,
                target_same,
              ),
            )
      ]

  pub log_makes : (iteration took left : ℕ) (verdict : Verdict) (made : Made)
      (kept : Option PreparedSeen) (inlet : Received) → task.stage.drain ≡ drains.Free
      → StepMakes (after_take took (numbers_in task)) task.stage.drain task.copy task.capacity made
      kept inlet
      → EventMakes task (events.Log iteration took left verdict) made kept inlet
  log_makes iteration took left verdict made kept inlet free makes = λ turn e.
      elim (opened_to (events.Log iteration took left verdict) turn e) [
        | inl e ↦ absurd (cc (e))
        | inr e ↦
            subst (λ (t : Turn). TurnMakes t task.copy task.capacity made kept inlet)
            (sym
            (log_turns task.changes task.holder task.answer (numbers_in task) task.stage.drain _
            iteration took left verdict turn e).2)
            (logged_on task.changes task.answer.now
            (is_slow left (numbers_in task).size)
            (after_take took (numbers_in task)) task.stage.drain task.copy task.capacity made kept
            inlet verdict free makes)
      ]

  pub last_due : (took left : ℕ) → HasTaken task.changes task.stage
      → IsNext (events.Last took left)
      → IsIndexed (numbers_in task) × ((numbers_in task).last ≡ false)
      × ((numbers_in task).done + took ≤ task.changes)
  last_due took left taken next =
      let has = plain_turn _ next in
      elim (opened_to (events.Last took left) has.0 has.1) [
        | inl e ↦ absurd (cc (e))
        | inr e ↦
            let is = last_turns task.changes task.holder task.answer (numbers_in task)
            task.stage.drain _ took left has.0 e in
            let due = due_at steps.Last is.0 in (
              due.0,
              due.1,
              omega (
                arith,
                is.1,
                least 64 (task.changes - (numbers_in task).done),
                taken.done,
                taken.target,
                done_same,
              ),
            )
      ]

  pub last_makes : (took left : ℕ) (made : Made)
      (kept : Option PreparedSeen) (inlet : Received) → (numbers_in task).last ≡ false
      → StepMakes (after_take took (numbers_in task)) task.stage.drain task.copy task.capacity made
      kept inlet
      → EventMakes task (events.Last took left) made kept inlet
  last_makes took left made kept inlet never makes = λ turn e.
      elim (opened_to (events.Last took left) turn e) [
        | inl e ↦ absurd (cc (e))
        | inr e ↦
            subst (λ (t : Turn). TurnMakes t task.copy task.capacity made kept inlet)
            (sym
            (last_turns task.changes task.holder task.answer (numbers_in task) task.stage.drain _
            took left turn e).2)
            (last_on task.changes (numbers_in task) took (left == 0) task.stage.drain task.copy
            task.capacity made kept inlet never makes)
      ]

  -- ---- GIVEUP, WAIT and GRANTED

  pub back_due : (count : ℕ) → IsNext (events.GiveUp count) → IsIndexed (numbers_in task)
  back_due count next =
      let has = plain_turn _ next in
      elim (opened_to (events.GiveUp count) has.0 has.1) [
        | inl e ↦ absurd (cc (e))
        | inr e ↦
            let is = back_turns task.changes task.holder task.answer (numbers_in task)
            task.stage.drain _ count has.0 e in
            (due_at (steps.Wait is.0) is.1).0
      ]

  pub back_makes : (count : ℕ) (made : Made) (kept : Option PreparedSeen) (inlet : Received)
      → StepMakes (after_back (numbers_in task)) task.stage.drain task.copy task.capacity made kept
      inlet
      → EventMakes task (events.GiveUp count) made kept inlet
  back_makes count made kept inlet makes = λ turn e.
      elim (opened_to (events.GiveUp count) turn e) [
        | inl e ↦ absurd (cc (e))
        | inr e ↦
            subst (λ (t : Turn). TurnMakes t task.copy task.capacity made kept inlet)
            (sym
            (back_turns task.changes task.holder task.answer (numbers_in task) task.stage.drain _
            count turn e).2)
            (back_on task.changes task.answer.now (numbers_in task) task.stage.drain task.copy
            task.capacity made kept inlet makes)
      ]

  pub wait_makes : (session : Session) (made : Made) (kept : Option PreparedSeen)
      (inlet : Received) → TaskMakes task made kept inlet
      → EventMakes task (events.Wait session) made kept inlet
  wait_makes session made kept inlet makes = λ turn e.
      elim (opened_to (events.Wait session) turn e) [
        | inl e ↦ absurd (cc (e))
        | inr e ↦
            subst (λ (t : Turn). TurnMakes t task.copy task.capacity made kept inlet)
            (sym
            (wait_turns task.changes task.holder task.answer (numbers_in task) task.stage.drain _
            session turn e).2) makes
      ]

  pub grant_makes : (named : DrainFor) (made : Made) (kept : Option PreparedSeen)
      (inlet : Received) → TaskMakes task made kept inlet
      → EventMakes task (events.Granted named) made kept inlet
  grant_makes named made kept inlet makes = λ turn e.
      elim (opened_to (events.Granted named) turn e) [
        | inl e ↦ absurd (cc (e))
        | inr e ↦
            let is = grant_turns task.changes task.holder task.answer (numbers_in task)
            task.stage.drain _ named turn e in
            subst (λ (t : Turn). TurnMakes t task.copy task.capacity made kept inlet) (sym is.2)
            (granted_on (numbers_in task) task.stage.drain is.0 task.copy task.capacity made kept
            inlet (due_at (steps.Wait is.0) is.1).1 makes)
      ]

  pub ended_makes : (made : Made) (kept : Option PreparedSeen) (inlet : Received)
      → EventMakes task events.Ended made kept inlet
  ended_makes made kept inlet = λ turn e.
      elim (opened_to events.Ended turn e) [
        | inl e ↦ absurd (cc (e))
        | inr e ↦
            absurd
            (due_at steps.End
            (ended_turns task.changes task.holder task.answer (numbers_in task) task.stage.drain _
            turn e))
      ]

  -- ---- a stop

  pub stop_makes : (reason : StopReason) (made : Made) (kept : Option PreparedSeen)
      (inlet : Received) → EventMakes task (events.Stop reason) made kept inlet
  stop_makes reason made kept inlet = λ turn e.
      elim (opened_to (events.Stop reason) turn e) [
        | inl e ↦
            subst (λ (t : Turn). TurnMakes t task.copy task.capacity made kept inlet)
            (sym (term_stops reason turn e)) tt
        | inr e ↦
            elim
            (stop_turns task.changes task.holder task.answer (numbers_in task) task.stage.drain _
            reason turn e) [
              | inl is ↦ subst
                  (λ (t : Turn). TurnMakes t task.copy task.capacity made kept inlet) (sym is) tt
              | inr is ↦ subst
                  (λ (t : Turn). TurnMakes t task.copy task.capacity made kept inlet) (sym is) tt
            ]
      ]

  -- ---- an event with which nothing is made

  module _ (event : Event) (booked : is_booked event ≡ true) (unfilled : is_filling event ≡ false)
      (no_sort : (which : Which) → event ≡ events.Sort which → ⊥)
      (no_build : (which : Which) → event ≡ events.Build which → ⊥)
      (no_log : (iteration took left : ℕ) (verdict : Verdict)
      → event ≡ events.Log iteration took left verdict → ⊥)
      (no_last : (took left : ℕ) → event ≡ events.Last took left → ⊥)
      (no_back : (count : ℕ) → event ≡ events.GiveUp count → ⊥) where
    pub quiet_makes : (made : Made) (kept : Option PreparedSeen) (inlet : Received)
        → TaskMakes task made kept inlet → EventMakes task event made kept inlet
    quiet_makes made kept inlet makes =
        of_event event booked unfilled no_sort no_build no_log no_last no_back
      where
        of_event : (e : Event) → is_booked e ≡ true → is_filling e ≡ false
            → ((which : Which) → e ≡ events.Sort which → ⊥)
            → ((which : Which) → e ≡ events.Build which → ⊥)
            → ((iteration took left : ℕ) (verdict : Verdict)
            → e ≡ events.Log iteration took left verdict → ⊥)
            → ((took left : ℕ) → e ≡ events.Last took left → ⊥)
            → ((count : ℕ) → e ≡ events.GiveUp count → ⊥)
            → EventMakes task e made kept inlet
        of_event (events.Wait session) b f s l g t k = wait_makes session made kept inlet makes
        of_event (events.Granted named) b f s l g t k = grant_makes named made kept inlet makes
        of_event (events.Stop reason) b f s l g t k = stop_makes reason made kept inlet
        of_event events.Ended b f s l g t k = ended_makes made kept inlet
        of_event (events.Sort which) b f s l g t k = absurd (s which refl)
        of_event (events.Build which) b f s l g t k = absurd (l which refl)
        of_event (events.Log iteration took left verdict) b f s l g t k =
            absurd (g iteration took left verdict refl)
        of_event (events.Last took left) b f s l g t k = absurd (t took left refl)
        of_event (events.GiveUp count) b f s l g t k = absurd (k count refl)
        of_event (events.Reload page rows) b f s l g t k = absurd (cc (f))
        of_event (events.Written pages) b f s l g t k = absurd (cc (f))
        of_event e b f s l g t k = absurd (cc (b))

    pub quiet_told : (made : Made) (stage : Option Stage) (taken : ℕ)
        → IsAsMade made stage taken event
    quiet_told made stage taken = of_event event unfilled no_sort no_build no_log no_last
      where
        of_event : (e : Event) → is_filling e ≡ false
            → ((which : Which) → e ≡ events.Sort which → ⊥)
            → ((which : Which) → e ≡ events.Build which → ⊥)
            → ((iteration took left : ℕ) (verdict : Verdict)
            → e ≡ events.Log iteration took left verdict → ⊥)
            → ((took left : ℕ) → e ≡ events.Last took left → ⊥)
            → IsAsMade made stage taken e
        of_event (events.Sort which) f s l g t = absurd (s which refl)
        of_event (events.Build which) f s l g t = absurd (l which refl)
        of_event (events.Log iteration took left verdict) f s l g t =
            absurd (g iteration took left verdict refl)
        of_event (events.Last took left) f s l g t = absurd (t took left refl)
        of_event (events.Reload page rows) f s l g t = absurd (cc (f))
        of_event e f s l g t = tt

  -- ---- RELOAD and WRITTEN

  pub page_makes : MakesStep task.stage task.answer steps.Reload
      → (filled : Result Filled ReloadFault)
      (event : Event) (made : Made) (kept : Option PreparedSeen) (inlet : Received)
      → IsPageOf filled event → kept ≡ None
      → IfOk filled (λ x. StepMakes (after_reload x.rows (numbers_in task)) task.stage.drain
      task.copy task.capacity made None inlet)
      → EventMakes task event made kept inlet
  page_makes step (Ok x) (events.Reload page rows) made kept inlet is none makes = λ turn e.
      let at = if_some _ _ turn
      (sym
      (turn_is task.stage task.answer steps.Reload step task.changes task.holder
      (events.Reload page rows))
      ∙ e) in
      subst (λ (t : Turn). TurnMakes t task.copy task.capacity made kept inlet) (sym at.1)
      (subst
      (λ (n : ℕ). StepMakes (after_reload n (numbers_in task)) task.stage.drain task.copy
      task.capacity made kept inlet) (sym is.1)
      (subst
      (λ (k : Option PreparedSeen). StepMakes (after_reload x.rows (numbers_in task))
      task.stage.drain task.copy task.capacity made k inlet) (sym none) makes))
  page_makes step (Err fault) (events.Reload page rows) made kept inlet is none makes = absurd is
  page_makes step (Ok x) (events.Stop reason) made kept inlet is none makes =
      stop_makes reason made kept inlet
  page_makes step (Err fault) (events.Stop reason) made kept inlet is none makes =
      stop_makes reason made kept inlet
  page_makes step (Ok x) event made kept inlet is none makes = absurd is
  page_makes step (Err fault) event made kept inlet is none makes = absurd is

  pub written_makes : (granted : DrainFor)
      → MakesStep task.stage task.answer (steps.Write granted) → (pages : ℕ) (made : Made)
      (kept : Option PreparedSeen) (inlet : Received)
      → ((drain : DrainState) → IsForAll drain
      → StepMakes (after_write pages (numbers_in task)) drain task.copy task.capacity made kept
      inlet)
      → EventMakes task (events.Written pages) made kept inlet
  written_makes what.Writers step pages made kept inlet makes = λ turn e.
      let u = after_write pages (numbers_in task) in
      let is : Runs (record u { asked = task.answer.now }) (drains.Asked what.All) ≡ turn =
      some_is
      (sym
      (turn_is task.stage task.answer (steps.Write what.Writers) step task.changes task.holder
      (events.Written pages))
      ∙ e) in
      subst (λ (t : Turn). TurnMakes t task.copy task.capacity made kept inlet) is
      (step_moved u (drains.Asked what.All) (record u { asked = task.answer.now })
      (drains.Asked what.All)
      (same_other u (drains.Asked what.All) (drains.Asked what.All) u.iteration u.target u.size
      task.answer.now u.failed u.gave_up u.message (λ last all. all))
      task.copy task.capacity made kept inlet (makes (drains.Asked what.All) tt))
  written_makes what.All step pages made kept inlet makes = λ turn e.
      let u = after_write pages (numbers_in task) in
      let is : Runs u task.stage.drain ≡ turn =
      some_is
      (sym
      (turn_is task.stage task.answer (steps.Write what.All) step task.changes task.holder
      (events.Written pages))
      ∙ e) in
      subst (λ (t : Turn). TurnMakes t task.copy task.capacity made kept inlet) is
      (subst
      (λ (x : DrainState). StepMakes u x task.copy task.capacity made kept inlet)
      (sym (due_for task.stage task.answer (steps.Write what.All) step).1)
      (makes (drains.Granted what.All) tt))

  -- ---- the event, or a stop in its place

  pub makes_or_stop : (event : Event) (result : Result Unit ShadowFault) (given : Event)
      (made : Made) (kept : Option PreparedSeen) (inlet : Received)
      → IsEventOrStop event result given → OnOk result (EventMakes task event made kept inlet)
      → EventMakes task given made kept inlet
  makes_or_stop event (Ok x) given made kept inlet (inl is) makes =
      subst (λ (e : Event). EventMakes task e made kept inlet) (sym is.0) makes
  makes_or_stop event (Err fault) given made kept inlet (inl is) makes = absurd (cc (is.1))
  makes_or_stop event result given made kept inlet (inr (inl is)) makes =
      subst (λ (e : Event). EventMakes task e made kept inlet) (sym is.0)
      (stop_makes reasons.NoMemory made kept inlet)
  makes_or_stop event result given made kept inlet (inr (inr is)) makes =
      subst (λ (e : Event). EventMakes task e made kept inlet) (sym is.0)
      (stop_makes reasons.NoSpace made kept inlet)

-- nothing is kept where rows are left to be reloaded
pub reload_kept : (task : Task) → MakesStep task.stage task.answer steps.Reload → (made : Made)
    (kept : Option PreparedSeen) (inlet : Received) → TaskMakes task made kept inlet → kept ≡ None
reload_kept task step made kept inlet makes =
    none_kept (numbers_in task) task.stage.drain task.copy task.capacity made kept inlet
    (λ options p keeps.
    omega (arith, keeps.reloaded, (due_for task.stage task.answer steps.Reload step).1))
    makes.made_is

-- ---- the end

over_part : (b t : Bool) (event : Event) (next : Option Turn) (turn : Turn)
    → (b ≡ true) ⊎ (t ≡ true)
    → (if b then end_turn event else (if t then term_turn event else next)) ≡ Some turn
    → turn ≡ Stops
over_part true t event next turn over e = end_stops event turn e
over_part false true event next turn over e = term_ends event turn e
over_part false false event next turn (inl is) e = absurd (cc (is))
over_part false false event next turn (inr is) e = absurd (cc (is))

stops_none : (turn : Turn) (o : Option Stage) → turn ≡ Stops → Followed turn o → o ≡ None
stops_none turn None is followed = refl
stops_none turn (Some t) is followed =
    absurd (subst (λ (x : Turn). Followed x (Some t)) is followed)

pub over_none : (s : Stage) (all : ℕ) (covered : Option Session) (answer : Answer) (event : Event)
    (next : Option Stage) → IsOver s answer
    → is_plain (turn_of all covered answer (numbers_of s) s.drain event) ≡ true
    → FollowsBy false (Some s) all covered (Some answer) event next → next ≡ None
over_none s all covered answer event next over plain follows =
    let has = plain_turn _ plain in
    stops_none has.0 next
    (over_part s.switched (is_term answer.command) event _ has.0 over has.1)
    (follows has.0 has.1)
