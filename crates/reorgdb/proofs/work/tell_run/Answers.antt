use Rattle.std.proofs.Common.{◌≢◌, List, sym, ◌∙◌, ap, subst}
use Rattle.std.specs.declared.alloc.Global.{Global}
use Rattle.std.specs.declared.vec.Vec.{Vec}
use Rattle.rg_run.specs.Outside.{IsEnd}
use Rattle.rg_run.specs.Table.{Ends}
use Rattle.rg_run.specs.declared.played.RunEnd.TheVariants.{NoMemory}
use Rattle.rg_stmt.specs.declared.event.Entry.{Entry}
use Rattle.reorgdb.specs.Answer.{DealsWithLines}
use Rattle.reorgdb.specs.Telling.{IsTold}
use Rattle.reorgdb.specs.declared.work.Conclusion.{Conclusion}
use Rattle.reorgdb.proofs.work.tell_run.Goals as goal

pub returns-clause-deals : goal.returns-clause-deals
returns-clause-deals g c = λ before after lines ends is_end told.
    let made = c.conclude-conclusion in
    let tells = c.args.tells in
    let left = c.args.judged.end in
    let read = sym c.deref.ensures.value in
    let base = made.ensures.deals before after lines
    (subst (λ (es : List Entry). Ends before after lines es left.end) read ends)
    (subst (λ (es : List Entry). IsEnd before after es left.end) read is_end)
    (subst
    (λ (es : List Entry). left.end ≢ NoMemory → IsTold tells before after es left.verdict) read
    told) in
    subst
    (λ (x : Conclusion). DealsWithLines tells before after lines x.outcome
    c.ended.result.trace.items x.text) (sym c.ended.ensures.end)
    (subst
    (λ (es : List Entry). DealsWithLines tells before after lines made.result.outcome es
    made.result.text)
    (c.deref.ensures.value ∙ sym (ap (λ (v : Vec Entry Global). v.items) c.ended.ensures.trace))
    base)
