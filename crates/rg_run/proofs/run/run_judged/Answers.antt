use Rattle.std.proofs.Common.{[], sym, ◌∙◌, ap, subst}
use Rattle.std.specs.declared.vec.Vec.{Vec}
use Rattle.std.specs.declared.alloc.Global.{Global}
use Rattle.rg_desk.specs.Desk.{DeskState, old_records}
use Rattle.rg_outside.specs.Counts.{CountedCalls, counted_seen}
use Rattle.rg_restart.specs.Opening.{IsRefused}
use Rattle.rg_stmt.specs.declared.event.Entry.{Entry}
use Rattle.rg_run.specs.Judged.{JudgesRun}
use Rattle.rg_run.specs.Parts.{Going, IsRun}
use Rattle.rg_run.specs.Whole.{Whole}
use Rattle.rg_run.specs.declared.played.JudgedEnd.{JudgedEnd}
use Rattle.rg_run.specs.declared.played.RunEnd.{RunEnd}
use Rattle.rg_run.proofs.Judging.{opened_table, verdict_settled, whole_settled}
use Rattle.rg_run.proofs.Opening.{opened_first}
use Rattle.rg_run.proofs.Wholly.{begins_out, going_first, whole_refused, whole_run}
use Rattle.rg_run.proofs.run.run_judged.Given as given
use Rattle.rg_run.proofs.run.run_judged.Goals as goal

pub play-requires-clause-going : goal.play-requires-clause-going
play-requires-clause-going g c =
    let look =
    (λ (x : CountedCalls g.row.V.Denot). counted_seen (g.V.Volume.seen x.volume) x.calls) in
    subst
    (λ (d : DeskState (CountedCalls g.row.V.Denot) g.row.O.Denot). Going look g.O.Operator.answers d
    [] d) (sym c.table-start.ensures.same)
    (going_first g.V.Volume.seen c.args.volume c.new.result c.new.ensures
    g.O.Operator.answers c.args.operator c.in-Ok.desk c.in-Ok.ensures.opens
    (c.in-Ok.ensures.older ∙ c.new-2.ensures.items))

-- the run of the desk that was opened
run_of : (g : given.Over) (c : goal.After-settle g)
    → IsRun
    (λ (x : CountedCalls g.row.V.Denot). counted_seen (g.V.Volume.seen x.volume) x.calls)
    g.O.Operator.answers
    c.in-Ok.desk c.args.lines.items
    ((λ (x : CountedCalls g.row.V.Denot). counted_seen (g.V.Volume.seen x.volume) x.calls)
    c.play.result.volume)
    c.play.result.operator c.play.result.trace.items c.play.result.end
run_of g c =
    let look =
    (λ (x : CountedCalls g.row.V.Denot). counted_seen (g.V.Volume.seen x.volume) x.calls) in
    subst
    (λ (d : DeskState (CountedCalls g.row.V.Denot) g.row.O.Denot). IsRun look g.O.Operator.answers d
    c.args.lines.items (look c.play.result.volume) c.play.result.operator c.play.result.trace.items
    c.play.result.end) c.table-start.ensures.same c.play.ensures

-- the run that was counted is one of the volume below
played : (g : given.Over) (c : goal.After-settle g)
    → Whole (g.V.Volume.seen c.args.volume)
    (g.V.Volume.seen c.uncounted.result.volume)
    c.args.lines.items c.uncounted.result.trace.items c.uncounted.result.end
played g c =
    let look = g.V.Volume.seen in
    let below = c.uncounted.result.volume in
    subst
    (λ (es : Vec Entry Global). Whole (look c.args.volume) (look below) c.args.lines.items es.items
    c.uncounted.result.end) (sym c.uncounted.ensures.trace) (subst
    (λ (end : RunEnd). Whole (look c.args.volume) (look below) c.args.lines.items
    c.play.result.trace.items end) (sym c.uncounted.ensures.end)
    (whole_run g.V.Volume.seen c.args.volume below c.new.result c.new.ensures
    c.play.result.volume c.uncounted.ensures.volume c.uncounted.ensures.counted
    c.args.operator c.in-Ok.desk c.in-Ok.ensures.opens c.args.lines.items c.play.result.operator
    c.play.result.trace.items c.play.result.end (run_of g c)))

-- what was settled, over the trace that is left
settled : (g : given.Over) (c : goal.After-settle g)
    → Whole (g.V.Volume.seen c.args.volume)
    (g.V.Volume.seen c.uncounted.result.volume)
    c.args.lines.items c.uncounted.result.trace.items c.settle.result.end.end
settled g c =
    let look = g.V.Volume.seen in
    whole_settled (look c.args.volume) (look c.uncounted.result.volume) c.args.lines.items
    c.uncounted.result.trace.items c.table-start.result c.uncounted.result.end
    c.settle.result.end.end c.settle.result.end.verdict c.settle.ensures.settled (played g c)

pub returns-in-Ok-clause-whole : goal.returns-in-Ok-clause-whole
returns-in-Ok-clause-whole g c =
    let look = g.V.Volume.seen in
    subst
    (λ (v : g.row.V.Denot). Whole (look c.args.volume) (look v) c.args.lines.items
    c.settle.result.trace.items c.settle.result.end.end) (sym c.settle.ensures.volume)
    (subst
    (λ (es : Vec Entry Global). Whole (look c.args.volume) (look c.uncounted.result.volume)
    c.args.lines.items es.items c.settle.result.end.end) (sym c.settle.ensures.trace)
    (settled g c))

pub returns-in-Ok-clause-judged : goal.returns-in-Ok-clause-judged
returns-in-Ok-clause-judged g c =
    let look = g.V.Volume.seen in
    let counted_look =
    (λ (x : CountedCalls g.row.V.Denot). counted_seen (g.V.Volume.seen x.volume) x.calls) in
    let opened = opened_first counted_look (counted_look c.new.result) c.args.operator c.in-Ok.desk
    c.in-Ok.ensures.opens in
    let desk = c.in-Ok.desk in
    subst
    (λ (v : g.row.V.Denot). JudgesRun (look c.args.volume) (look v)
    c.settle.result.trace.items c.settle.result.end.end c.settle.result.end.verdict)
    (sym c.settle.ensures.volume) (subst
    (λ (es : Vec Entry Global). JudgesRun (look c.args.volume) (look c.uncounted.result.volume)
    es.items c.settle.result.end.end c.settle.result.end.verdict) (sym c.settle.ensures.trace)
    (verdict_settled (look c.args.volume) (look c.uncounted.result.volume) c.args.lines.items
    c.uncounted.result.trace.items c.table-start.result c.uncounted.result.end
    c.settle.result.end.end c.settle.result.end.verdict c.settle.ensures.settled (played g c)
    (λ table is.
    begins_out g.V.Volume.seen c.args.volume
    c.uncounted.result.volume c.new.result c.new.ensures c.play.result.volume
    c.uncounted.ensures.volume c.uncounted.ensures.counted
    c.args.operator desk c.in-Ok.ensures.opens c.args.lines.items c.play.result.operator
    c.play.result.trace.items c.play.result.end (run_of g c) table
    (opened_table (old_records desk) desk.first_copy desk.trace opened.entry opened.trace opened.is
    c.table-start.result c.table-start.ensures.table table is))))

pub returns-in-Err-clause-whole : goal.returns-in-Err-clause-whole
returns-in-Err-clause-whole g c =
    let look = g.V.Volume.seen in
    let below = c.uncounted-played.result.volume in
    let left = c.uncounted-played.ensures in
    let fault = c.in-Err.fault in
    let n = c.refused.result.volume.calls in
    let counted_look =
    (λ (x : CountedCalls g.row.V.Denot). counted_seen (g.V.Volume.seen x.volume) x.calls) in
    let not_opened : Whole (look c.args.volume) (look below) c.args.lines.items
    c.uncounted-played.result.trace.items c.uncounted-played.result.end =
    subst
    (λ (end : RunEnd). Whole (look c.args.volume) (look below) c.args.lines.items
    c.uncounted-played.result.trace.items end) (sym (left.end ∙ c.refused.ensures.end))
    (whole_refused g.V.Volume.seen c.args.volume below
    c.new.result c.new.ensures g.met.V.Volume.told_faults n left.counted c.args.lines.items
    c.uncounted-played.result.trace.items fault.end
    (ap (λ (v : Vec Entry Global). v.items) left.trace ∙ c.refused.ensures.trace
    ∙ c.in-Err.ensures.trace ∙ c.new-2.ensures.items) (subst
    (λ (v : g.row.V.Denot). IsRefused (counted_look c.new.result)
    (counted_seen (g.V.Volume.seen v) n) fault.end) (sym left.volume)
    (subst
    (λ (x : CountedCalls g.row.V.Denot). IsRefused (counted_look c.new.result) (counted_look x)
    fault.end) (sym c.refused.ensures.volume) c.in-Err.ensures.refused))) in
    subst
    (λ (v : g.row.V.Denot). Whole (look c.args.volume) (look v) c.args.lines.items
    c.ended.result.trace.items c.ended.result.end.end) (sym c.ended.ensures.volume)
    (subst
    (λ (es : Vec Entry Global). Whole (look c.args.volume) (look below) c.args.lines.items es.items
    c.ended.result.end.end) (sym c.ended.ensures.trace)
    (subst
    (λ (e : JudgedEnd). Whole (look c.args.volume) (look below) c.args.lines.items
    c.uncounted-played.result.trace.items e.end) (sym c.ended.ensures.end) not_opened))
