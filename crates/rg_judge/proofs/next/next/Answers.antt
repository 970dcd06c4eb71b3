use Rattle.std.proofs.Common.{◌≡◌, sym, subst}
use Rattle.std.specs.Option.{option_map}
use Rattle.std.specs.Result.{IfOk}
use Rattle.rg_stmt.specs.declared.event.Actor.{Actor}
use Rattle.rg_model.specs.Possible.{next_state}
use Rattle.rg_judge.specs.StateOf.{state_of}
use Rattle.rg_judge.proofs.next.next.Goals as goal

pub returns-in-System : goal.returns-in-System
returns-in-System c = λ past is.
    subst
    (λ (actor : Actor). IfOk c.next_of_system.result
    (λ next. option_map state_of next
    ≡ next_state past c.args.answer actor c.args.event.now (state_of c.args.st)))
    (sym c.in-System.is) (c.next_of_system.ensures past c.args.answer)
