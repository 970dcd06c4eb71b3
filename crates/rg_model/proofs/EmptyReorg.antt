-- The worked trace "empty reorg": a utility over a table without rows, from its start to its end.
use Rattle.std.proofs.Common.{◌≡◌, ℕ, Bool, true, false, List, [], ◌∷◌, Some, refl}
use Rattle.std.specs.FinMap as map
use Rattle.rg_base.specs.declared.options.DrainFor.TheVariants.{Writers, All}
use Rattle.rg_base.specs.declared.options.DrainState.{DrainState}
use Rattle.rg_base.specs.declared.options.DrainState.TheVariants.{Free, Asked, Granted}
use Rattle.rg_base.specs.declared.row.Row.{Row}
use Rattle.rg_base.specs.declared.session.Class.{Class}
use Rattle.rg_base.specs.declared.verdict.Verdict.TheVariants.{Drain}
use Rattle.rg_base.specs.declared.which.Which.TheVariants.{Key, Clus, Cat}
use Rattle.rg_stmt.specs.declared.event.Actor.TheVariants.{Utility}
use Rattle.rg_stmt.specs.declared.event.Entry.{Entry}
use Rattle.rg_stmt.specs.declared.event.Event.{Event}
use Rattle.rg_stmt.specs.declared.event.Event.TheVariants as events
use Rattle.rg_stmt.specs.declared.layout.Side.{Side}
use Rattle.rg_stmt.specs.declared.layout.Sides.{Sides}
use Rattle.rg_model.specs.Possible.{next_state}
use Rattle.rg_model.specs.Run.{Run}
use Rattle.rg_model.specs.State as model
use Rattle.rg_model.specs.State.{State, at_rest}
use Rattle.rg_model.specs.Utility.{new_utility}
use Rattle.rg_model.proofs.Traces.{defaults, at, step, line, entries-empty, len-empty}

abbrev empty_side : Side
empty_side = record { pages = 0; spots = []; keys = []; cluses = []; cats = [] }

abbrev sides : Sides
sides = record { old = empty_side; new = empty_side }

-- a step at moment 0
abbrev now : Event → Entry
now event = step (at 0) event

abbrev trace : List Entry
trace =
    line (events.Started defaults 1 0)
    ∷ now (events.Sort Key) ∷ now (events.Sort Clus) ∷ now (events.Sort Cat)
    ∷ now (events.Build Key) ∷ now (events.Build Clus) ∷ now (events.Build Cat)
    ∷ now (events.Log 1 0 0 (Drain Writers))
    ∷ now (events.Granted Writers)
    ∷ now (events.Last 0 0)
    ∷ now (events.Written 0)
    ∷ now (events.Granted All)
    ∷ now (events.Switched 2 sides)
    ∷ now events.Ended
    ∷ line events.Idle
    ∷ []

-- after BUILD CAT
abbrev numbers : (last written switched : Bool) → model.Utility
numbers last written switched =
    record (new_utility defaults 0) {
      sorted = 3;
      built = 3;
      iteration = 1;
      last = last;
      written = written;
      switched = switched;
    }

abbrev state : ℕ → DrainState → (last written switched : Bool) → State
state copy drain last written switched =
    record (at_rest map.empty copy) {
      drain = drain;
      utility = Some (numbers last written switched);
    }

abbrev built : List Entry
built =
    now (events.Build Cat) ∷ now (events.Build Clus) ∷ now (events.Build Key)
    ∷ now (events.Sort Cat) ∷ now (events.Sort Clus) ∷ now (events.Sort Key)
    ∷ line (events.Started defaults 1 0) ∷ []

abbrev drained : List Entry
drained = now (events.Log 1 0 0 (Drain Writers)) ∷ built

abbrev written : List Entry
written = now (events.Written 0) ∷ now (events.Last 0 0) ∷ now (events.Granted Writers) ∷ drained

granted_writers : next_state drained (Some (at 0)) Utility (events.Granted Writers)
    (state 1 (Asked Writers) false false false)
    ≡ Some (state 1 (Granted Writers) false false false)
granted_writers = rw (entries-empty Class) refl

granted_all : next_state written (Some (at 0)) Utility (events.Granted All)
    (state 1 (Asked All) true true false)
    ≡ Some (state 1 (Granted All) true true false)
granted_all = rw (entries-empty Class) refl

switched : next_state (now (events.Granted All) ∷ written) (Some (at 0)) Utility
    (events.Switched 2 sides)
    (state 1 (Granted All) true true false) ≡ Some (state 2 Free true true true)
switched = rw (entries-empty Row, len-empty Class) refl

ended : Run (now (events.Switched 2 sides) ∷ now (events.Granted All) ∷ written)
    (state 2 Free true true true)
    (now events.Ended ∷ line events.Idle ∷ []) (at_rest map.empty 2)
ended = (at_rest map.empty 2, refl, (at_rest map.empty 2, refl, refl))

from_drain : Run drained (state 1 (Asked Writers) false false false) (now (events.Granted Writers)
    ∷ now (events.Last 0 0) ∷ now (events.Written 0) ∷ now (events.Granted All)
    ∷ now (events.Switched 2 sides) ∷ now events.Ended ∷ line events.Idle ∷ [])
    (at_rest map.empty 2)
from_drain = (
  state 1 (Granted Writers) false false false,
  granted_writers,
  (
    state 1 (Granted Writers) true false false,
    refl,
    (
      state 1 (Asked All) true true false,
      refl,
      (
        state 1 (Granted All) true true false,
        granted_all,
        (state 2 Free true true true, switched, ended),
      ),
    ),
  ),
)

empty_reorg : Run [] (at_rest map.empty 1) trace (at_rest map.empty 2)
empty_reorg = (
  _,
  refl,
  (
    _,
    refl,
    (
      _,
      refl,
      (
        _,
        refl,
        (
          _,
          refl,
          (
            _,
            refl,
            (
              _,
              refl,
              (state 1 (Asked Writers) false false false, refl, from_drain),
            ),
          ),
        ),
      ),
    ),
  ),
)
