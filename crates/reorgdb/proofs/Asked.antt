-- A call without a run asks nobody.
use Rattle.std.proofs.Common.{◌≡◌, List, [], Option, sym, subst}
use Rattle.rg_base.specs.declared.control.Answer.{Answer}
use Rattle.rg_stmt.specs.declared.event.Entry.{Entry}
use Rattle.rg_run.specs.Asked.{HasAnswered, answers_in}
use Rattle.rg_run.proofs.Asking.{same_unasked}

pub none_asked :
    {O : Type 0} (answers : O → Option (List Answer)) (old new : O) (trace : List Entry) → new ≡ old
    → trace ≡ [] → HasAnswered (answers old) (answers_in trace) (answers new)
none_asked answers old new trace same none =
    subst (λ (es : List Entry). HasAnswered (answers old) (answers_in es) (answers new)) (sym none)
    (same_unasked answers old new same)

-- the operator and the trace of a run
pub run_asked :
    {O : Type 0} (answers : O → Option (List Answer)) (old ran new : O) (made trace : List Entry)
    → new ≡ ran → trace ≡ made → HasAnswered (answers old) (answers_in made) (answers ran)
    → HasAnswered (answers old) (answers_in trace) (answers new)
run_asked {O} answers old ran new made trace same is asked =
    subst (λ (es : List Entry). HasAnswered (answers old) (answers_in es) (answers new)) (sym is)
    (subst (λ (o : O). HasAnswered (answers old) (answers_in made) (answers o)) (sym same) asked)
