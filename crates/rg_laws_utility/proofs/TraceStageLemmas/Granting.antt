-- A drain is granted only where it was asked, and no session is in its way.
use Rattle.std.proofs.Common.{◌≡◌, ◌+◌, if◌then◌else◌, inl, inr, ℕ, Bool, true}
use Rattle.std.proofs.Common.{false, Option, Some, None, refl, sym, subst}
use Rattle.rg_base.specs.declared.control.Answer.{Answer}
use Rattle.rg_base.specs.declared.options.DrainFor.{DrainFor}
use Rattle.rg_base.specs.declared.options.DrainFor.TheVariants as what
use Rattle.rg_base.specs.declared.options.DrainState.{DrainState}
use Rattle.rg_base.specs.declared.options.DrainState.TheVariants as drains
use Rattle.rg_base.specs.declared.session.Session.{Session}
use Rattle.rg_base.specs.declared.step.Step.{Step}
use Rattle.rg_base.specs.declared.step.Step.TheVariants as steps
use Rattle.rg_base.specs.declared.verdict.DrainVerdict.{DrainVerdict}
use Rattle.rg_base.specs.declared.verdict.DrainVerdict.TheVariants as waits
use Rattle.rg_base.specs.declared.verdict.StopReason.{StopReason}
use Rattle.rg_base.specs.declared.verdict.StopReason.TheVariants as reasons
use Rattle.rg_base.specs.declared.verdict.Verdict.{Verdict}
use Rattle.rg_base.specs.declared.verdict.Verdict.TheVariants as verdicts
use Rattle.rg_feed.specs.declared.fold.item.Stage.{Stage}
use Rattle.rg_model.specs.Same.{same_reason}
use Rattle.rg_model.specs.State.{Utility}
use Rattle.rg_model.specs.Turn.{Turn, Runs, Switches, Stops, Falls, alter, build_turn, early_stop}
use Rattle.rg_model.specs.Turn.{end_turn, is_term, last_turn, log_turn, reload_turn, sort_turn}
use Rattle.rg_model.specs.Turn.{space_stop, step_of, switch_turn, term_turn, turn_at, turn_if}
use Rattle.rg_model.specs.Turn.{turn_of, unload_turn, verdict_turn, wait_turn, write_turn}
use Rattle.rg_model.specs.Verdict.{drain_verdict, is_slow}
use Rattle.rg_rules.specs.Stage.Booked.{drain_kept}
use Rattle.rg_rules.specs.Stage.Followed.{Followed}
use Rattle.rg_stmt.specs.declared.event.Event.{Event}
use Rattle.rg_stmt.specs.declared.event.Event.TheVariants as events
use Rattle.rg_laws_utility.specs.TraceStage.Tending.{MayDrain}
use Rattle.rg_laws_utility.proofs.TraceStageLemmas.Turning.{IsAt, step_at}
use Rattle.rg_laws_utility.proofs.CourseLemmas.Granting.{nobody_named}

-- the drain that a turn leaves may be in force
abbrev pub MayLeave : (old : DrainState) → (blocker : Option Session) → Turn → Type 0
MayLeave old blocker (Runs v drain) = MayDrain old blocker drain
MayLeave old blocker turn = Unit {0}

abbrev pub MayLeaveIf : (old : DrainState) → (blocker : Option Session) → Option Turn → Type 0
MayLeaveIf old blocker None = Unit {0}
MayLeaveIf old blocker (Some turn) = MayLeave old blocker turn

stays : (drain : DrainState) (blocker : Option Session) → MayDrain drain blocker drain
stays drains.Free blocker = tt
stays (drains.Asked asked) blocker = tt
stays (drains.Granted granted) blocker = inl refl

module _ (old : DrainState) (blocker : Option Session) where
  leaves_if : (b : Bool) (turn : Turn) → MayLeave old blocker turn
      → MayLeaveIf old blocker (turn_if b turn)
  leaves_if true turn h = h
  leaves_if false turn h = tt

  stops_so : (event : Event) → MayLeaveIf old blocker (early_stop event)
  stops_so (events.Stop reasons.Device) = tt
  stops_so (events.Stop reasons.NoMemory) = tt
  stops_so event = tt

  stops_for_space : (event : Event) → MayLeaveIf old blocker (space_stop event)
  stops_for_space (events.Stop reasons.NoSpace) = tt
  stops_for_space event = stops_so event

  unload_leaves : (u : Utility) (event : Event) → MayLeaveIf old blocker (unload_turn u old event)
  unload_leaves u (events.Unload page rows) = leaves_if _ _ (stays old blocker)
  unload_leaves u event = stops_so event

  reload_leaves : (u : Utility) (event : Event) → MayLeaveIf old blocker (reload_turn u old event)
  reload_leaves u (events.Reload page rows) = leaves_if _ _ (stays old blocker)
  reload_leaves u event = stops_for_space event

  sort_leaves : (u : Utility) (event : Event) → MayLeaveIf old blocker (sort_turn u old event)
  sort_leaves u (events.Sort which) = leaves_if _ _ (stays old blocker)
  sort_leaves u event = stops_so event

  build_leaves : (all : ℕ) (u : Utility) (event : Event)
      → MayLeaveIf old blocker (build_turn all u old event)
  build_leaves all u (events.Build which) = leaves_if _ _ (stays old blocker)
  build_leaves all u event = stops_so event

  verdict_leaves : (all now : ℕ) (slow : Bool) (u : Utility) (verdict : Verdict)
      → MayLeave old blocker (verdict_turn all now slow u old verdict)
  verdict_leaves all now slow u verdicts.More = stays old blocker
  verdict_leaves all now slow u verdicts.Next = stays old blocker
  verdict_leaves all now slow u verdicts.Message = stays old blocker
  verdict_leaves all now slow u (verdicts.Drain asked) = tt
  verdict_leaves all now slow u (verdicts.Stop reason) = tt

  log_leaves : (all : ℕ) (answer : Answer) (u : Utility) (event : Event)
      → MayLeaveIf old blocker (log_turn all answer u old event)
  log_leaves all answer u (events.Log iteration took left verdict) = leaves_if _ _
      (verdict_leaves all answer.now (is_slow left u.size) (record u { done = u.done + took })
      verdict)
  log_leaves all answer u event = stops_for_space event

  stop_so : (b : Bool) (named : StopReason)
      → MayLeaveIf old blocker (if b then Some Stops else early_stop (events.Stop named))
  stop_so true named = tt
  stop_so false named = stops_so (events.Stop named)

  -- a drain that was asked is granted where nobody is in its way
  wait_leaves : (all : ℕ) (answer : Answer) (u : Utility) (asked : DrainFor)
      (verdict : DrainVerdict) (event : Event)
      → old ≡ drains.Asked asked → (verdict ≡ waits.Granted → blocker ≡ None)
      → MayLeaveIf old blocker (wait_turn all answer u old asked verdict event)
  wait_leaves all answer u asked (waits.Wait session) (events.Wait named) is nobody =
      leaves_if _ _ (stays old blocker)
  wait_leaves all answer u asked (waits.Wait session) event is nobody = stops_so event
  wait_leaves all answer u asked waits.Granted (events.Granted named) is nobody =
      leaves_if _ _ (inr (is, nobody refl))
  wait_leaves all answer u asked waits.Granted event is nobody = stops_so event
  wait_leaves all answer u asked waits.GiveUp (events.GiveUp count) is nobody = leaves_if _ _ tt
  wait_leaves all answer u asked waits.GiveUp event is nobody = stops_so event
  wait_leaves all answer u asked (waits.Stop reason) (events.Stop named) is nobody =
      stop_so (same_reason named reason) named
  wait_leaves all answer u asked (waits.Stop reason) event is nobody = stops_so event

  last_leaves : (all : ℕ) (u : Utility) (event : Event)
      → MayLeaveIf old blocker (last_turn all u old event)
  last_leaves all u (events.Last took left) = leaves_if _ _ (stays old blocker)
  last_leaves all u event = stops_for_space event

  write_leaves : (answer : Answer) (u : Utility) (granted : DrainFor) (event : Event)
      → MayLeaveIf old blocker (write_turn answer u old granted event)
  write_leaves answer u what.Writers (events.Written pages) = tt
  write_leaves answer u what.All (events.Written pages) = stays old blocker
  write_leaves answer u granted event = stops_so event

  switch_leaves : (u : Utility) (event : Event) → MayLeaveIf old blocker (switch_turn u event)
  switch_leaves u (events.Switched copy sides) = tt
  switch_leaves u (events.Stop reasons.Device) = tt
  switch_leaves u event = stops_so event

  end_leaves : (event : Event) → MayLeaveIf old blocker (end_turn event)
  end_leaves events.Ended = tt
  end_leaves event = stops_so event

  term_leaves : (event : Event) → MayLeaveIf old blocker (term_turn event)
  term_leaves (events.Stop reasons.Term) = tt
  term_leaves (events.Stop reasons.NoMemory) = tt
  term_leaves event = tt

at_leaves : (drain : DrainState) (blocker : Option Session) (u : Utility) (step : Step)
    → IsAt step u drain → (all : ℕ) (answer : Answer) (event : Event)
    → MayLeaveIf drain blocker (turn_at step all blocker answer u drain event)
at_leaves drain blocker u steps.Unload at all answer event = unload_leaves drain blocker u event
at_leaves drain blocker u steps.Reload at all answer event = reload_leaves drain blocker u event
at_leaves drain blocker u steps.Sort at all answer event = sort_leaves drain blocker u event
at_leaves drain blocker u steps.Build at all answer event = build_leaves drain blocker all u event
at_leaves drain blocker u steps.Log at all answer event =
    log_leaves drain blocker all answer u event
at_leaves drain blocker u (steps.Wait asked) at all answer event =
    wait_leaves drain blocker all answer u asked
    (drain_verdict u.options u.asked u.failed blocker answer.now answer.estimate) event at
    (nobody_named u.options u.asked u.failed blocker answer.now answer.estimate)
at_leaves drain blocker u steps.Last at all answer event = last_leaves drain blocker all u event
at_leaves drain blocker u (steps.Write granted) at all answer event =
    write_leaves drain blocker answer u granted event
at_leaves drain blocker u steps.Switch at all answer event = switch_leaves drain blocker u event
at_leaves drain blocker u steps.End at all answer event = end_leaves drain blocker event

pub turn_leaves : (all : ℕ) (blocker : Option Session) (answer : Answer) (u : Utility)
    (drain : DrainState) (event : Event)
    → MayLeaveIf drain blocker (turn_of all blocker answer u drain event)
turn_leaves all blocker answer u drain event = by_switched u.switched
  where
    by_term : (b : Bool)
        → MayLeaveIf drain blocker
        (if b then term_turn event else turn_at (step_of (alter u answer.command) drain) all blocker
        answer (alter u answer.command) drain event)
    by_term true = term_leaves drain blocker event
    by_term false =
        let v : Utility = alter u answer.command in
        at_leaves drain blocker v (step_of v drain) (step_at v drain) all answer event

    by_switched : (b : Bool)
        → MayLeaveIf drain blocker
        (if b then end_turn event else (if is_term answer.command then term_turn event
        else turn_at (step_of (alter u answer.command) drain) all blocker answer
        (alter u answer.command) drain event))
    by_switched true = end_leaves drain blocker event
    by_switched false = by_term (is_term answer.command)

-- so may the drain of the stage that follows
pub next_drains : (old : DrainState) (blocker : Option Session) (turn : Turn) (next : Option Stage)
    → MayLeave old blocker turn → Followed turn next → MayDrain old blocker (drain_kept next)
next_drains old blocker (Runs v drain) (Some t) leaves follows =
    subst (MayDrain old blocker) (sym follows.1) leaves
next_drains old blocker (Runs v drain) None leaves follows = absurd follows
next_drains old blocker (Switches copy sides v) (Some t) leaves follows =
    subst (MayDrain old blocker) (sym follows.1) tt
next_drains old blocker (Switches copy sides v) None leaves follows = absurd follows
next_drains old blocker Stops (Some t) leaves follows = absurd follows
next_drains old blocker Stops None leaves follows = tt
next_drains old blocker Falls (Some t) leaves follows = absurd follows
next_drains old blocker Falls None leaves follows = tt

leave_of : (old : DrainState) (blocker : Option Session) (o : Option Turn) (turn : Turn)
    → o ≡ Some turn → MayLeaveIf old blocker o → MayLeave old blocker turn
leave_of old blocker o turn e leaves = subst (MayLeaveIf old blocker) e leaves

pub drain_granted : (u : Utility) (all : ℕ) (blocker : Option Session) (answer : Answer)
    (drain : DrainState) (event : Event) (turn : Turn) (next : Option Stage)
    → turn_of all blocker answer u drain event ≡ Some turn → Followed turn next
    → MayDrain drain blocker (drain_kept next)
drain_granted u all blocker answer drain event turn next e follows = next_drains drain blocker turn
    next (leave_of drain blocker _ turn e (turn_leaves all blocker answer u drain event)) follows
