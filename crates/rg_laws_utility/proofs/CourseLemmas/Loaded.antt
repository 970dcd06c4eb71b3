-- Once a list is sorted all rows are reloaded, and each step leaves it so.
use Rattle.std.proofs.Common.{◌≡◌, ◌≤◌, ◌+◌, ◌-◌, ◌==◌, ◌&&◌, ℕ, Bool, true, false, not, Option}
use Rattle.std.proofs.Common.{Some, IfSome, nat_lt, nat_le, min, if◌then◌else◌, refl, subst, arith}
use Rattle.std.proofs.lemmas.Bool.Decides.{nat_tests}
use Rattle.rg_base.specs.declared.control.Answer.{Answer}
use Rattle.rg_base.specs.declared.control.Command.{Command}
use Rattle.rg_base.specs.declared.control.Command.TheVariants as commands
use Rattle.rg_base.specs.declared.options.DrainFor.{DrainFor}
use Rattle.rg_base.specs.declared.options.DrainFor.TheVariants as what
use Rattle.rg_base.specs.declared.options.DrainState.{DrainState}
use Rattle.rg_base.specs.declared.options.DrainState.TheVariants as drains
use Rattle.rg_base.specs.declared.session.Session.{Session}
use Rattle.rg_base.specs.declared.step.Step.{Step}
use Rattle.rg_base.specs.declared.step.Step.TheVariants as steps
use Rattle.rg_base.specs.declared.verdict.DrainVerdict.{DrainVerdict}
use Rattle.rg_base.specs.declared.verdict.DrainVerdict.TheVariants as waits
use Rattle.rg_base.specs.declared.verdict.StopReason.TheVariants as reasons
use Rattle.rg_base.specs.declared.verdict.Verdict.{Verdict}
use Rattle.rg_base.specs.declared.verdict.Verdict.TheVariants as verdicts
use Rattle.rg_stmt.specs.declared.event.Event.{Event}
use Rattle.rg_stmt.specs.declared.event.Event.TheVariants as events
use Rattle.rg_model.specs.Packed.{page_at}
use Rattle.rg_model.specs.Same.{same_drain, same_reason, same_verdict, same_which}
use Rattle.rg_model.specs.State.{Utility}
use Rattle.rg_model.specs.Turn.{Turn, Stops, alter, build_turn, early_stop, end_turn, is_term}
use Rattle.rg_model.specs.Turn.{last_turn, log_turn, log_verdict, nth_which, reload_turn, sort_turn}
use Rattle.rg_model.specs.Turn.{space_stop, step_by_drain, step_of, switch_turn, term_turn, turn_at}
use Rattle.rg_model.specs.Turn.{turn_if, turn_of, unload_turn, verdict_turn, wait_turn, write_turn}
use Rattle.rg_model.specs.Verdict.{drain_verdict, is_slow}
use Rattle.rg_laws_utility.specs.Course.Loading.{IsLoaded, IsLoadedAfter}

abbrev KeepsIf : Option Turn → Type 0
KeepsIf turn = IfSome turn IsLoadedAfter

keeps_if : (b : Bool) (turn : Turn) → IsLoadedAfter turn → KeepsIf (turn_if b turn)
keeps_if true turn keeps = keeps
keeps_if false turn keeps = tt

early_keeps : (event : Event) → KeepsIf (early_stop event)
early_keeps (events.Stop reasons.Device) = tt
early_keeps (events.Stop reasons.NoMemory) = tt
early_keeps event = tt

space_keeps : (event : Event) → KeepsIf (space_stop event)
space_keeps (events.Stop reasons.NoSpace) = tt
space_keeps event = early_keeps event

-- ---- by the stage

module _ (u : Utility) (loaded : IsLoaded u) where
  unload_keeps : (drain : DrainState) (event : Event) → nat_lt u.copied u.pages ≡ true
      → KeepsIf (unload_turn u drain event)
  unload_keeps drain (events.Unload page rows) left =
      keeps_if (page == u.copied + 1 && nat_le rows 225) _
      (λ sorted. absurd (below (loaded sorted).0))
    where
      below : u.pages ≤ u.copied → ⊥
      below all = grind (arith, nat_tests, left, all)
  unload_keeps drain event left = early_keeps event

  reload_keeps : (drain : DrainState) (event : Event) → nat_lt u.reloaded u.unloaded ≡ true
      → KeepsIf (reload_turn u drain event)
  reload_keeps drain (events.Reload page rows) left =
      keeps_if
      (page == page_at u.options.freepage (u.filled + 1)
      && (nat_le 1 rows && nat_le rows (u.unloaded - u.reloaded))) _
      (λ sorted. absurd (below (loaded sorted).1))
    where
      below : u.unloaded ≤ u.reloaded → ⊥
      below all = grind (arith, nat_tests, left, all)
  reload_keeps drain event left = space_keeps event

  sort_keeps : (drain : DrainState) (event : Event) → nat_lt u.copied u.pages ≡ false
      → nat_lt u.reloaded u.unloaded ≡ false → KeepsIf (sort_turn u drain event)
  sort_keeps drain (events.Sort which) copied reloaded =
      keeps_if (same_which which (nth_which u.sorted)) _
      (λ sorted. (grind (arith, nat_tests, copied), grind (arith, nat_tests, reloaded)))
  sort_keeps drain event copied reloaded = early_keeps event

  build_keeps : (all : ℕ) (drain : DrainState) (event : Event)
      → KeepsIf (build_turn all u drain event)
  build_keeps all drain (events.Build which) =
      keeps_if (same_which which (nth_which u.built)) _ (go (u.built == 2))
    where
      go : (b : Bool)
          → IsLoaded
          (if b then record u {
            built = 3;
            iteration = u.iteration + 1;
            target = all;
            size = all - u.done;
          } else record u { built = u.built + 1 })
      go true = loaded
      go false = loaded
  build_keeps all drain event = early_keeps event

  verdict_keeps :
      (all now : ℕ) (slow : Bool) (next : Utility) (drain : DrainState) (verdict : Verdict)
      → IsLoaded next → IsLoadedAfter (verdict_turn all now slow next drain verdict)
  verdict_keeps all now slow next drain verdicts.More at = at
  verdict_keeps all now true next drain verdicts.Next at = at
  verdict_keeps all now false next drain verdicts.Next at = at
  verdict_keeps all now slow next drain verdicts.Message at = at
  verdict_keeps all now slow next drain (verdicts.Drain asked) at = at
  verdict_keeps all now slow next drain (verdicts.Stop reason) at = tt

  log_keeps : (all : ℕ) (answer : Answer) (drain : DrainState) (event : Event)
      → KeepsIf (log_turn all answer u drain event)
  log_keeps all answer drain (events.Log iteration took left verdict) =
      let next : Utility = record u { done = u.done + took } in
      keeps_if
      (iteration == u.iteration
      && (took == min 64 (u.target - u.done)
      && (left == all - next.done && same_verdict verdict (log_verdict left answer next)))) _
      (verdict_keeps all answer.now (is_slow left u.size) next drain verdict loaded)
  log_keeps all answer drain event = space_keeps event

  wait_keeps : (all : ℕ) (answer : Answer) (drain : DrainState) (asked : DrainFor)
      (verdict : DrainVerdict) (event : Event)
      → KeepsIf (wait_turn all answer u drain asked verdict event)
  wait_keeps all answer drain asked (waits.Wait session) (events.Wait named) =
      keeps_if (named.0 == session.0) _ loaded
  wait_keeps all answer drain asked waits.Granted (events.Granted named) =
      keeps_if (same_drain named asked) _ loaded
  wait_keeps all answer drain asked waits.GiveUp (events.GiveUp count) =
      keeps_if (count == u.failed + 1) _ loaded
  wait_keeps all answer drain asked (waits.Stop reason) (events.Stop named) =
      go (same_reason named reason)
    where
      go : (b : Bool) → KeepsIf (if b then Some Stops else early_stop (events.Stop named))
      go true = tt
      go false = early_keeps (events.Stop named)
  wait_keeps all answer drain asked verdict event = early_keeps event

  last_keeps : (all : ℕ) (drain : DrainState) (event : Event)
      → KeepsIf (last_turn all u drain event)
  last_keeps all drain (events.Last took left) =
      keeps_if (took == min 64 (all - u.done) && left == all - (u.done + took)) _ loaded
  last_keeps all drain event = space_keeps event

  write_keeps : (answer : Answer) (drain : DrainState) (granted : DrainFor) (event : Event)
      → KeepsIf (write_turn answer u drain granted event)
  write_keeps answer drain what.Writers (events.Written pages) = loaded
  write_keeps answer drain what.All (events.Written pages) = loaded
  write_keeps answer drain granted event = early_keeps event

  switch_keeps : (event : Event) → KeepsIf (switch_turn u event)
  switch_keeps (events.Switched other sides) = loaded
  switch_keeps (events.Stop reasons.Device) = tt
  switch_keeps event = early_keeps event

end_keeps : (event : Event) → KeepsIf (end_turn event)
end_keeps events.Ended = tt
end_keeps event = early_keeps event

module _ (all : ℕ) (blocker : Option Session) (answer : Answer) (event : Event) where
  abbrev KeepsAt : Utility → Step → DrainState → Type 0
  KeepsAt u step drain = KeepsIf (turn_at step all blocker answer u drain event)

  under_keeps : (u : Utility) → IsLoaded u → (drain : DrainState) (granted : DrainFor)
      → KeepsAt u
      (if not u.last then steps.Last
      else (if not u.written then steps.Write granted else steps.Switch)) drain
  under_keeps u loaded drain granted = go u.last u.written
    where
      go : (a b : Bool)
          → KeepsAt u
          (if not a then steps.Last else (if not b then steps.Write granted else steps.Switch))
          drain
      go false b = last_keeps u loaded all drain event
      go true false = write_keeps u loaded answer drain granted event
      go true true = switch_keeps u loaded event

  drain_keeps : (u : Utility) → IsLoaded u → (drain now : DrainState)
      → KeepsAt u (step_by_drain u drain) now
  drain_keeps u loaded drains.Free now = log_keeps u loaded all answer now event
  drain_keeps u loaded (drains.Asked asked) now = wait_keeps u loaded all answer now asked
      (drain_verdict u.options u.asked u.failed blocker answer.now answer.estimate) event
  drain_keeps u loaded (drains.Granted granted) now = under_keeps u loaded now granted

  step_keeps : (u : Utility) → IsLoaded u → (drain : DrainState) → KeepsAt u (step_of u drain) drain
  step_keeps u loaded drain = go (nat_lt u.copied u.pages) (nat_lt u.reloaded u.unloaded)
      (nat_lt u.sorted 3) (nat_lt u.built 3) refl refl
    where
      go : (a b c d : Bool) → nat_lt u.copied u.pages ≡ a → nat_lt u.reloaded u.unloaded ≡ b
          → KeepsAt u
          (if a then steps.Unload else (if b then steps.Reload
          else (if c then steps.Sort else (if d then steps.Build else step_by_drain u drain))))
          drain
      go true b c d copied reloaded = unload_keeps u loaded drain event copied
      go false true c d copied reloaded = reload_keeps u loaded drain event reloaded
      go false false true d copied reloaded = sort_keeps u loaded drain event copied reloaded
      go false false false true copied reloaded = build_keeps u loaded all drain event
      go false false false false copied reloaded = drain_keeps u loaded drain drain

  altered : (u : Utility) (command : Command) → IsLoaded u → IsLoaded (alter u command)
  altered u (commands.Alter a) loaded = loaded
  altered u command loaded = loaded

  turn_keeps : (u : Utility) (drain : DrainState) → IsLoaded u
      → KeepsIf (turn_of all blocker answer u drain event)
  turn_keeps u drain loaded = by_switched u.switched
    where
      v : Utility
      v = alter u answer.command

      term_keeps : (event : Event) → KeepsIf (term_turn event)
      term_keeps (events.Stop reasons.Term) = tt
      term_keeps (events.Stop reasons.NoMemory) = tt
      term_keeps event = tt

      by_term : (b : Bool)
          → KeepsIf
          (if b then term_turn event
          else turn_at (step_of v drain) all blocker answer v drain event)
      by_term true = term_keeps event
      by_term false = step_keeps v (altered u answer.command loaded) drain

      by_switched : (b : Bool)
          → KeepsIf
          (if b then end_turn event else (if is_term answer.command then term_turn event
          else turn_at (step_of v drain) all blocker answer v drain event))
      by_switched true = end_keeps event
      by_switched false = by_term (is_term answer.command)

pub loaded_goes_on : (all : ℕ) (blocker : Option Session) (answer : Answer) (u : Utility)
    (drain : DrainState) (event : Event) (turn : Turn)
    → IsLoaded u → turn_of all blocker answer u drain event ≡ Some turn → IsLoadedAfter turn
loaded_goes_on all blocker answer u drain event turn loaded is =
    subst KeepsIf is (turn_keeps all blocker answer event u drain loaded)
