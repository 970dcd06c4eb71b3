use Rattle.std.proofs.Common.{◌∷◌, List, [], sym, ◌∙◌, ap, subst}
use Rattle.std.specs.declared.alloc.Global.{Global}
use Rattle.std.specs.declared.vec.Vec.{Vec}
use Rattle.rg_run.specs.Outside.{IsEnd}
use Rattle.rg_run.specs.Shown.{ShowsOpened}
use Rattle.rg_run.specs.Table.{Ends}
use Rattle.rg_stmt.specs.declared.event.Entry.{Entry}
use Rattle.rg_stmt.specs.declared.line.Line.TheVariants.{Show}
use Rattle.reorgdb.specs.Answer.{Finds, ShowsTo}
use Rattle.reorgdb.specs.declared.work.Conclusion.{Conclusion}
use Rattle.reorgdb.proofs.work.print_shown.Goals as goal

pub returns-clause-shows : goal.returns-clause-shows
returns-clause-shows g c = λ before after words source ends opened show.
    let made = c.conclude_shown-conclusion in
    let end = c.args.played.end in
    let base = made.ensures.shows before after words source
    (subst (λ (es : List Entry). Ends before after (Show ∷ []) es end) (sym c.deref.ensures.value)
    ends)
    (subst (λ (es : List Entry). ShowsOpened before after es) (sym c.deref.ensures.value) opened)
    show in
    subst
    (λ (x : Conclusion). ShowsTo x.outcome words source source before after
    c.ended.result.trace.items x.text) (sym c.ended.ensures.end)
    (subst
    (λ (es : List Entry). ShowsTo made.result.outcome words source source before after es
    made.result.text)
    (c.deref.ensures.value ∙ sym (ap (λ (v : Vec Entry Global). v.items) c.ended.ensures.trace))
    base)

pub returns-clause-finds : goal.returns-clause-finds
returns-clause-finds g c = λ before after ends is_end.
    let made = c.conclude_shown-conclusion in
    let end = c.args.played.end in
    let base = made.ensures.finds before after
    (subst (λ (es : List Entry). Ends before after (Show ∷ []) es end) (sym c.deref.ensures.value)
    ends)
    (subst (λ (es : List Entry). IsEnd before after es end) (sym c.deref.ensures.value) is_end) in
    subst (λ (x : Conclusion). Finds x.outcome before after c.ended.result.trace.items)
    (sym c.ended.ensures.end)
    (subst (λ (es : List Entry). Finds made.result.outcome before after es)
    (c.deref.ensures.value ∙ sym (ap (λ (v : Vec Entry Global). v.items) c.ended.ensures.trace))
    base)
