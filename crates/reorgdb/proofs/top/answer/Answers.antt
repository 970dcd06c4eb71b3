use Rattle.std.proofs.Common.{sym, subst}
use Rattle.std.specs.declared.alloc.Global.{Global}
use Rattle.std.specs.declared.vec.Vec.{Vec}
use Rattle.rg_stmt.specs.declared.event.Entry.{Entry}
use Rattle.reorgdb.specs.Traced.{Traced}
use Rattle.reorgdb.proofs.top.answer.Goals as goal

pub returns-clause-traced : goal.returns-clause-traced
returns-clause-traced g c =
    let look = g.V.Volume.seen in
    let work = c.carry_out-work in
    subst
    (λ (v : g.row.V.Denot). Traced (look c.args.volume) (look v) c.ended.result.trace.items)
    (sym c.ended.ensures.volume)
    (subst
    (λ (es : Vec Entry Global). Traced (look c.args.volume) (look work.result.volume) es.items)
    (sym c.ended.ensures.trace) work.ensures.traced)
