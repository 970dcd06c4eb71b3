-- Next event: what a step of a running utility makes of it, by five values that the step sees: the
-- changes so far, the least session that holds a class which the drain covers, the operator's
-- answer, the utility's numbers, and the drain. The order of the phases is the method's of Sockut,
-- Beavin and Chang; the numbers are this profile's.
-- (1) Before the switch the step first obeys the operator: TERM ends the utility, ALTER changes its
--     options.
-- (2) Then its stage decides the one event that it makes (`step_of`).
-- (3) STOP DEVICE and STOP NOMEMORY may stand in place of any event, and STOP NOSPACE in place of
--     RELOAD, LOG and LAST. At the switch STOP DEVICE leaves the engine down.
use Rattle.std.specs.Prelude.{ℕ, ◌==◌, ◌&&◌, ◌+◌, ◌-◌, nat_le, nat_lt, min, Bool, true, false, not}
use Rattle.std.specs.Prelude.{Option, Some, None, if◌then◌else◌}
use Rattle.std.specs.Option.{unwrap_or}
use Rattle.rg_base.specs.declared.control.Answer.{Answer}
use Rattle.rg_base.specs.declared.control.Command.{Command}
use Rattle.rg_base.specs.declared.control.Command.TheVariants as commands
use Rattle.rg_base.specs.declared.options.DrainFor.{DrainFor}
use Rattle.rg_base.specs.declared.options.DrainFor.TheVariants as what
use Rattle.rg_base.specs.declared.options.DrainState.{DrainState}
use Rattle.rg_base.specs.declared.options.DrainState.TheVariants as drains
use Rattle.rg_base.specs.declared.session.Session.{Session}
use Rattle.rg_base.specs.declared.step.Step.{Step}
use Rattle.rg_base.specs.declared.step.Step.TheVariants as steps
use Rattle.rg_base.specs.declared.verdict.DrainVerdict.{DrainVerdict}
use Rattle.rg_base.specs.declared.verdict.DrainVerdict.TheVariants as waits
use Rattle.rg_base.specs.declared.verdict.StopReason.TheVariants as reasons
use Rattle.rg_base.specs.declared.verdict.Verdict.{Verdict}
use Rattle.rg_base.specs.declared.verdict.Verdict.TheVariants as verdicts
use Rattle.rg_base.specs.declared.which.Which.{Which}
use Rattle.rg_base.specs.declared.which.Which.TheVariants.{Key, Clus, Cat}
use Rattle.rg_stmt.specs.declared.event.Event.{Event}
use Rattle.rg_stmt.specs.declared.event.Event.TheVariants as events
use Rattle.rg_stmt.specs.declared.layout.Sides.{Sides}
use Rattle.rg_model.specs.Packed.{page_at}
use Rattle.rg_model.specs.Same.{same_which, same_drain, same_reason, same_verdict}
use Rattle.rg_model.specs.State.{Utility}
use Rattle.rg_model.specs.Verdict.{iteration_verdict, drain_verdict, is_slow}

-- what a step leaves
pub data Turn : Type 0 where
  -- the utility with these numbers, under this drain
  Runs : Utility → DrainState → Turn
  -- the other copy with these layouts, and the utility with these numbers
  Switches : ℕ → Sides → Utility → Turn
  -- no utility
  Stops : Turn
  -- no utility, and the engine is down
  Falls : Turn

-- under a drain that is granted
abbrev pub step_under : Utility → DrainFor → Step
step_under u granted =
    if not u.last then steps.Last else (if not u.written then steps.Write granted else steps.Switch)

-- once the new copy has its indexes
abbrev pub step_by_drain : Utility → DrainState → Step
step_by_drain u drains.Free = steps.Log
step_by_drain u (drains.Asked asked) = steps.Wait asked
step_by_drain u (drains.Granted granted) = step_under u granted

-- the stage of a utility that has not switched
abbrev pub step_of : Utility → DrainState → Step
step_of u drain =
    if nat_lt u.copied u.pages then steps.Unload
    else (if nat_lt u.reloaded u.unloaded then steps.Reload
    else (if nat_lt u.sorted 3 then steps.Sort
    else (if nat_lt u.built 3 then steps.Build
    else step_by_drain u drain)))

abbrev pub turn_if : Bool → Turn → Option Turn
turn_if allowed turn = if allowed then Some turn else None

-- what may stand in place of any event
abbrev pub early_stop : Event → Option Turn
early_stop (events.Stop reasons.Device) = Some Stops
early_stop (events.Stop reasons.NoMemory) = Some Stops
early_stop event = None

-- the same, or the new copy had no room
abbrev pub space_stop : Event → Option Turn
space_stop (events.Stop reasons.NoSpace) = Some Stops
space_stop event = early_stop event

-- UNLOAD copies the next page; a page has 225 slots at most
abbrev pub unload_turn : Utility → DrainState → Event → Option Turn
unload_turn u drain (events.Unload page rows) =
    turn_if (page == u.copied + 1 && nat_le rows 225)
    (Runs (record u { copied = page; unloaded = u.unloaded + rows }) drain)
unload_turn u drain event = early_stop event

-- RELOAD fills the next page with one row at least
abbrev pub reload_turn : Utility → DrainState → Event → Option Turn
reload_turn u drain (events.Reload page rows) =
    turn_if
    (page == page_at u.options.freepage (u.filled + 1)
    && (nat_le 1 rows && nat_le rows (u.unloaded - u.reloaded)))
    (Runs (record u { filled = u.filled + 1; reloaded = u.reloaded + rows }) drain)
reload_turn u drain event = space_stop event

-- KEY, then CLUS, then CAT
abbrev pub nth_which : ℕ → Which
nth_which n = if n == 0 then Key else (if n == 1 then Clus else Cat)

abbrev pub sort_turn : Utility → DrainState → Event → Option Turn
sort_turn u drain (events.Sort which) =
    turn_if (same_which which (nth_which u.sorted))
    (Runs (record u { sorted = u.sorted + 1 }) drain)
sort_turn u drain event = early_stop event

-- one iteration more, with all changes so far as its target
abbrev pub next_iteration : (all : ℕ) → Utility → Utility
next_iteration all u = record u { iteration = u.iteration + 1; target = all; size = all - u.done }

-- BUILD CAT begins iteration 1
abbrev pub build_next : (all : ℕ) → Utility → Utility
build_next all u =
    if u.built == 2
    then next_iteration all (record u { built = 3 })
    else record u { built = u.built + 1 }

abbrev pub build_turn : (all : ℕ) → Utility → DrainState → Event → Option Turn
build_turn all u drain (events.Build which) =
    turn_if (same_which which (nth_which u.built)) (Runs (build_next all u) drain)
build_turn all u drain event = early_stop event

-- NEXT and MESSAGE begin the next iteration. A plain NEXT clears a message that stands, one of a
-- log that does not grow shorter keeps it.
abbrev pub verdict_turn : (all now : ℕ) → (slow : Bool) → Utility → DrainState → Verdict → Turn
verdict_turn all now slow u drain verdicts.More = Runs u drain
verdict_turn all now slow u drain verdicts.Next =
    Runs (next_iteration all (if slow then u else record u { message = None })) drain
verdict_turn all now slow u drain verdicts.Message =
    Runs (next_iteration all (record u { message = Some now })) drain
verdict_turn all now slow u drain (verdicts.Drain asked) =
    Runs (record u { asked = now }) (drains.Asked asked)
verdict_turn all now slow u drain (verdicts.Stop reason) = Stops

-- MORE, as long as the iteration's target is not reached
abbrev pub log_verdict : (left : ℕ) → Answer → Utility → Verdict
log_verdict left answer u =
    if u.done == u.target
    then iteration_verdict u.options left u.size u.gave_up u.message answer.now answer.estimate
    else verdicts.More

-- LOG takes up to 64 changes
abbrev pub log_turn : (all : ℕ) → Answer → Utility → DrainState → Event → Option Turn
log_turn all answer u drain (events.Log iteration took left verdict) =
    let next = record u { done = u.done + took } in
    turn_if
    (iteration == u.iteration
    && (took == min 64 (u.target - u.done)
    && (left == all - next.done && same_verdict verdict (log_verdict left answer next))))
    (verdict_turn all answer.now (is_slow left u.size) next drain verdict)
log_turn all answer u drain event = space_stop event

-- GIVEUP counts a failed try, and leads back to an iteration; what was caught up and written counts
-- no more
abbrev pub give_up : (all now : ℕ) → Utility → Utility
give_up all now u =
    next_iteration all
    (record u { failed = u.failed + 1; gave_up = Some now; last = false; written = false })

-- a drain that was asked comes to its verdict
abbrev pub wait_turn :
    (all : ℕ) → Answer → Utility → DrainState → (asked : DrainFor) → DrainVerdict → Event
    → Option Turn
wait_turn all answer u drain asked (waits.Wait session) (events.Wait named) =
    turn_if (named.0 == session.0) (Runs u drain)
wait_turn all answer u drain asked waits.Granted (events.Granted named) =
    turn_if (same_drain named asked) (Runs u (drains.Granted asked))
wait_turn all answer u drain asked waits.GiveUp (events.GiveUp count) =
    turn_if (count == u.failed + 1) (Runs (give_up all answer.now u) drains.Free)
wait_turn all answer u drain asked (waits.Stop reason) (events.Stop named) =
    if same_reason named reason then Some Stops else early_stop (events.Stop named)
wait_turn all answer u drain asked verdict event = early_stop event

-- LAST takes up to 64 changes, until none is left, and is made once at least
abbrev pub last_turn : (all : ℕ) → Utility → DrainState → Event → Option Turn
last_turn all u drain (events.Last took left) =
    turn_if (took == min 64 (all - u.done) && left == all - (u.done + took))
    (Runs (record u { target = all; done = u.done + took; last = left == 0 }) drain)
last_turn all u drain event = space_stop event

-- under WRITERS the drain for ALL is asked with it
abbrev pub drain_after_write : (now : ℕ) → Utility → DrainState → (granted : DrainFor) → Turn
drain_after_write now u drain what.Writers = Runs (record u { asked = now }) (drains.Asked what.All)
drain_after_write now u drain what.All = Runs u drain

abbrev pub write_turn : Answer → Utility → DrainState → (granted : DrainFor) → Event → Option Turn
write_turn answer u drain granted (events.Written pages) =
    Some (drain_after_write answer.now (record u { written = true; shadow = pages }) drain granted)
write_turn answer u drain granted event = early_stop event

abbrev pub switch_turn : Utility → Event → Option Turn
switch_turn u (events.Switched copy sides) =
    Some (Switches copy sides (record u { switched = true }))
switch_turn u (events.Stop reasons.Device) = Some Falls
switch_turn u event = early_stop event

abbrev pub end_turn : Event → Option Turn
end_turn events.Ended = Some Stops
end_turn event = early_stop event

-- by the stage
abbrev pub turn_at :
    Step → (all : ℕ) → (blocker : Option Session) → Answer → Utility → DrainState → Event
    → Option Turn
turn_at steps.Unload all blocker answer u drain event = unload_turn u drain event
turn_at steps.Reload all blocker answer u drain event = reload_turn u drain event
turn_at steps.Sort all blocker answer u drain event = sort_turn u drain event
turn_at steps.Build all blocker answer u drain event = build_turn all u drain event
turn_at steps.Log all blocker answer u drain event = log_turn all answer u drain event
turn_at (steps.Wait asked) all blocker answer u drain event =
    wait_turn all answer u drain asked
    (drain_verdict u.options u.asked u.failed blocker answer.now answer.estimate) event
turn_at steps.Last all blocker answer u drain event = last_turn all u drain event
turn_at (steps.Write granted) all blocker answer u drain event =
    write_turn answer u drain granted event
turn_at steps.Switch all blocker answer u drain event = switch_turn u event
turn_at steps.End all blocker answer u drain event = end_turn event

abbrev pub is_term : Command → Bool
is_term commands.Term = true
is_term command = false

-- TERM ends the utility, unless memory ran out first
abbrev pub term_turn : Event → Option Turn
term_turn (events.Stop reasons.Term) = Some Stops
term_turn (events.Stop reasons.NoMemory) = Some Stops
term_turn event = None

-- ALTER replaces the options that it names
abbrev pub alter : Utility → Command → Utility
alter u (commands.Alter a) = record u {
  options = record u.options {
    maxro = unwrap_or a.maxro u.options.maxro;
    longlog = unwrap_or a.longlog u.options.longlog;
    delay = unwrap_or a.delay u.options.delay;
    deadline = unwrap_or a.deadline u.options.deadline;
  };
}
alter u command = u

-- the turn of an event of a running utility, or none where the event is not its next
abbrev pub turn_of :
    (all : ℕ) → (blocker : Option Session) → Answer → Utility → DrainState → Event → Option Turn
turn_of all blocker answer u drain event =
    if u.switched then end_turn event
    else (if is_term answer.command then term_turn event
    else
    (let v = alter u answer.command in turn_at (step_of v drain) all blocker answer v drain event))
