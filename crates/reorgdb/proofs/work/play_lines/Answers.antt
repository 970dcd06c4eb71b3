use Rattle.std.proofs.Common.{sym, subst}
use Rattle.reorgdb.specs.Answer.{DealsWithLines, Finds}
use Rattle.reorgdb.proofs.Asked.{run_asked}
use Rattle.reorgdb.proofs.Traces.{run_traced}
use Rattle.reorgdb.proofs.work.play_lines.Goals as goal

pub returns-clause-deals : goal.returns-clause-deals
returns-clause-deals g c =
    let look = g.V.Volume.seen in
    let ran = c.run_lines.result in
    let made = c.tell_run.result in
    subst
    (λ (v : g.row.V.Denot). DealsWithLines c.args.tells (look c.args.volume) (look v)
    c.args.lines.items made.end.outcome made.trace.items made.end.text)
    (sym c.tell_run.ensures.volume)
    (c.tell_run.ensures.deals (look c.args.volume) (look ran.volume) c.args.lines.items
    c.run_lines.ensures.whole.ends c.run_lines.ensures.whole.is_end c.run_lines.ensures.told)

pub returns-clause-traced : goal.returns-clause-traced
returns-clause-traced g c =
    let look = g.V.Volume.seen in
    let ran = c.run_lines.result in
    run_traced look (look c.args.volume) ran.volume c.tell_run.result.volume
    c.args.lines.items ran.trace.items c.tell_run.result.trace.items ran.end.end
    c.tell_run.ensures.volume c.tell_run.ensures.trace c.run_lines.ensures.whole

pub returns-clause-finds : goal.returns-clause-finds
returns-clause-finds g c =
    let look = g.V.Volume.seen in
    let ran = c.run_lines.result in
    let made = c.tell_run.result in
    subst
    (λ (v : g.row.V.Denot). Finds made.end.outcome (look c.args.volume) (look v) made.trace.items)
    (sym c.tell_run.ensures.volume)
    (c.tell_run.ensures.finds (look c.args.volume) (look ran.volume)
    c.run_lines.ensures.whole.is_end)

pub returns-clause-asked : goal.returns-clause-asked
returns-clause-asked g c =
    let ran = c.run_lines.result in
    run_asked g.O.Operator.answers c.args.operator ran.operator c.tell_run.result.operator
    ran.trace.items c.tell_run.result.trace.items c.tell_run.ensures.operator
    c.tell_run.ensures.trace c.run_lines.ensures.asked
