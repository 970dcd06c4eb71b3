-- The worked traces "deadline and alter" and "active and term".
use Rattle.std.proofs.Common.{List, [], ◌∷◌, Some, None, refl}
use Rattle.std.specs.FinMap as map
use Rattle.rg_base.specs.declared.control.Command.TheVariants.{Nothing, Term, Alter}
use Rattle.rg_base.specs.declared.control.Deadline.TheVariants.{At}
use Rattle.rg_base.specs.declared.control.Maxro.TheVariants.{Within, Defer}
use Rattle.rg_base.specs.declared.options.DrainFor.TheVariants.{Writers}
use Rattle.rg_base.specs.declared.options.Options.{Options}
use Rattle.rg_base.specs.declared.verdict.StopReason.TheVariants as reasons
use Rattle.rg_base.specs.declared.verdict.Verdict.TheVariants.{Drain, Next}
use Rattle.rg_base.specs.declared.which.Which.TheVariants.{Key, Clus, Cat}
use Rattle.rg_stmt.specs.declared.event.Entry.{Entry}
use Rattle.rg_stmt.specs.declared.event.Event.{Event}
use Rattle.rg_stmt.specs.declared.event.Event.TheVariants as events
use Rattle.rg_model.specs.Run.{Run}
use Rattle.rg_model.specs.State.{at_rest}
use Rattle.rg_model.proofs.Traces.{defaults, answer, at, step, line}

abbrev options : Options
options = record defaults { maxro = Defer; deadline = At 50 }

abbrev now : Event → Entry
now event = step (at 0) event

-- MAXRO DEFER goes on at moment 40, an ALTER of MAXRO then drains, and the deadline comes
abbrev trace : List Entry
trace =
    line (events.Started options 1 0)
    ∷ now (events.Sort Key) ∷ now (events.Sort Clus) ∷ now (events.Sort Cat)
    ∷ now (events.Build Key) ∷ now (events.Build Clus) ∷ now (events.Build Cat)
    ∷ step (answer 40 10 Nothing) (events.Log 1 0 0 Next)
    ∷ step
    (answer 40 10
    (Alter (record { maxro = Some (Within 10); longlog = None; delay = None; deadline = None })))
    (events.Log 2 0 0 (Drain Writers))
    ∷ step (answer 41 10 Nothing) (events.Stop reasons.Deadline)
    ∷ []

deadline_and_alter : Run [] (at_rest map.empty 1) trace (at_rest map.empty 1)
deadline_and_alter = (
  _,
  refl,
  (
    _,
    refl,
    (
      _,
      refl,
      (
        _,
        refl,
        (
          _,
          refl,
          (
            _,
            refl,
            (
              _,
              refl,
              (_, refl, (_, refl, (_, refl, refl))),
            ),
          ),
        ),
      ),
    ),
  ),
)

-- a second control statement finds the first running, and TERM ends that
abbrev active : List Entry
active =
    line (events.Started defaults 1 0) ∷ line events.Active
    ∷ step (answer 0 0 Term) (events.Stop reasons.Term) ∷ []

active_and_term : Run [] (at_rest map.empty 1) active (at_rest map.empty 1)
active_and_term = (_, refl, (_, refl, (_, refl, refl)))
