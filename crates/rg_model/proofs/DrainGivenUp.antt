-- The worked trace "drain given up", from the grant of its first drain on: session 2 reads
-- throughout.
use Rattle.std.proofs.Common.{◌≡◌, ℕ, Bool, true, false, List, [], ◌∷◌, Option, Some, None, refl}
use Rattle.std.specs.FinMap as map
use Rattle.rg_base.specs.declared.options.DrainFor.TheVariants.{Writers, All}
use Rattle.rg_base.specs.declared.options.DrainState.{DrainState}
use Rattle.rg_base.specs.declared.options.DrainState.TheVariants.{Free, Asked, Granted}
use Rattle.rg_base.specs.declared.options.Options.{Options}
use Rattle.rg_base.specs.declared.session.Class.TheVariants.{Reader}
use Rattle.rg_base.specs.declared.verdict.StopReason.TheVariants as reasons
use Rattle.rg_base.specs.declared.verdict.Verdict.TheVariants.{Drain, Next}
use Rattle.rg_stmt.specs.declared.event.Actor.TheVariants.{Utility}
use Rattle.rg_stmt.specs.declared.event.Entry.{Entry}
use Rattle.rg_stmt.specs.declared.event.Event.TheVariants as events
use Rattle.rg_model.specs.Possible.{next_state}
use Rattle.rg_model.specs.Run.{Run}
use Rattle.rg_model.specs.State as model
use Rattle.rg_model.specs.State.{State}
use Rattle.rg_model.specs.Utility.{new_utility, stop_utility}
use Rattle.rg_model.proofs.Traces.{defaults, session, at, step, line, beside}

abbrev options : Options
options = record defaults { wait = 5; retry = 1; pause = 2 }

abbrev before : List Entry
before = line (events.Started options 1 1) ∷ []

abbrev numbers : (iteration asked : ℕ) → Option ℕ → (failed shadow : ℕ) → (last written : Bool)
    → model.Utility
numbers iteration asked gave_up failed shadow last written =
    record (new_utility options 1) {
      copied = 1;
      unloaded = 1;
      reloaded = 1;
      filled = 1;
      sorted = 3;
      built = 3;
      iteration = iteration;
      asked = asked;
      gave_up = gave_up;
      failed = failed;
      shadow = shadow;
      last = last;
      written = written;
    }

-- once the drain for ALL was given up, and before the next one is asked
abbrev after_giveup : List Entry
after_giveup = step (at 5) (events.GiveUp 1) ∷ step (at 4) (events.Wait (session 2))
    ∷ step (at 0) (events.Written 1) ∷ before

abbrev drained : List Entry
drained = step (at 7) (events.Log 3 0 0 (Drain Writers)) ∷ step (at 6) (events.Log 2 0 0 Next)
    ∷ after_giveup

module _ (table : model.Table) (claims : model.Claims)
    (reads : map.entries claims ≡ (2, Reader) ∷ []) where
  abbrev state : DrainState → model.Utility → State
  state drain utility = beside table map.empty claims drain utility

  waits : next_state (step (at 0) (events.Written 1) ∷ before) (Some (at 4)) Utility
      (events.Wait (session 2)) (state (Asked All) (numbers 1 0 None 0 1 true true))
      ≡ Some (state (Asked All) (numbers 1 0 None 0 1 true true))
  waits = rw reads refl

  gives_up :
      next_state (step (at 4) (events.Wait (session 2)) ∷ step (at 0) (events.Written 1) ∷ before)
      (Some (at 5))
      Utility (events.GiveUp 1) (state (Asked All) (numbers 1 0 None 0 1 true true))
      ≡ Some (state Free (numbers 2 0 (Some 5) 1 1 false false))
  gives_up = rw reads refl

  grants : next_state drained (Some (at 7)) Utility (events.Granted Writers)
      (state (Asked Writers) (numbers 3 7 (Some 5) 1 1 false false))
      ≡ Some (state (Granted Writers) (numbers 3 7 (Some 5) 1 1 false false))
  grants = rw reads refl

  stops : next_state
      (step (at 7) (events.Written 1) ∷ step (at 7) (events.Last 0 0)
      ∷ step (at 7) (events.Granted Writers) ∷ drained) (Some (at 12)) Utility
      (events.Stop reasons.Drain) (state (Asked All) (numbers 3 7 (Some 5) 1 1 true true))
      ≡ Some (stop_utility (state Free (numbers 3 7 (Some 5) 1 1 true true)))
  stops = rw reads refl

  abbrev trace : List Entry
  trace =
      step (at 0) (events.Written 1)
      ∷ step (at 4) (events.Wait (session 2))
      ∷ step (at 5) (events.GiveUp 1)
      ∷ step (at 6) (events.Log 2 0 0 Next)
      ∷ step (at 7) (events.Log 3 0 0 (Drain Writers))
      ∷ step (at 7) (events.Granted Writers)
      ∷ step (at 7) (events.Last 0 0)
      ∷ step (at 7) (events.Written 1)
      ∷ step (at 12) (events.Stop reasons.Drain)
      ∷ []

  drain_given_up : Run before (state (Granted Writers) (numbers 1 0 None 0 0 true false)) trace
      (stop_utility (state Free (numbers 3 7 (Some 5) 1 1 true true)))
  drain_given_up = (
    state (Asked All) (numbers 1 0 None 0 1 true true),
    refl,
    (
      state (Asked All) (numbers 1 0 None 0 1 true true),
      waits,
      (
        state Free (numbers 2 0 (Some 5) 1 1 false false),
        gives_up,
        (
          state Free (numbers 3 0 (Some 5) 1 1 false false),
          refl,
          (
            state (Asked Writers) (numbers 3 7 (Some 5) 1 1 false false),
            refl,
            (
              state (Granted Writers) (numbers 3 7 (Some 5) 1 1 false false),
              grants,
              (
                state (Granted Writers) (numbers 3 7 (Some 5) 1 1 true false),
                refl,
                (
                  state (Asked All) (numbers 3 7 (Some 5) 1 1 true true),
                  refl,
                  (stop_utility (state Free (numbers 3 7 (Some 5) 1 1 true true)), stops, refl),
                ),
              ),
            ),
          ),
        ),
      ),
    ),
  )
