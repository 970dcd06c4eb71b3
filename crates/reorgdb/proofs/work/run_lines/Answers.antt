use Rattle.std.proofs.Common.{subst, sym}
use Rattle.std.specs.declared.alloc.Global.{Global}
use Rattle.std.specs.declared.vec.Vec.{Vec}
use Rattle.rg_run.specs.Whole.{Whole}
use Rattle.rg_run.specs.declared.played.JudgedEnd.{JudgedEnd}
use Rattle.rg_stmt.specs.declared.event.Entry.{Entry}
use Rattle.reorgdb.specs.Telling.{IsTold}
use Rattle.reorgdb.specs.declared.telling.Tells.{Tells}
use Rattle.reorgdb.proofs.Deals.{judged_run}
use Rattle.reorgdb.proofs.work.run_lines.Goals as goal

pub returns-in-Print-clause-whole : goal.returns-in-Print-clause-whole
returns-in-Print-clause-whole g c =
    let look = g.V.Volume.seen in
    let run = c.run-played.ensures in
    let left = c.run-played.result in
    let whole : Whole (look c.args.volume) (look left.volume) c.args.lines.items left.trace.items
    left.end = record {
      ends = run.ends;
      legal = run.legal;
      opening = run.opening;
      openings = run.openings;
      fit = run.fit;
      layout = run.layout;
      full = run.full;
      course = run.course;
      log_full = run.log_full;
      space = run.space;
      device = run.device;
      is_end = run.end;
      sound = run.sound;
      only = run.only;
      later = run.later;
    } in
    subst
    (λ (v : g.row.V.Denot). Whole (look c.args.volume) (look v) c.args.lines.items
    c.ended.result.trace.items c.ended.result.end.end) (sym c.ended.ensures.volume)
    (subst
    (λ (es : Vec Entry Global). Whole (look c.args.volume) (look left.volume) c.args.lines.items
    es.items c.ended.result.end.end) (sym c.ended.ensures.trace)
    (subst
    (λ (e : JudgedEnd). Whole (look c.args.volume) (look left.volume) c.args.lines.items
    left.trace.items e.end) (sym c.ended.ensures.end) whole))

pub returns-in-Print-clause-told : goal.returns-in-Print-clause-told
returns-in-Print-clause-told g c ends =
    let look = g.V.Volume.seen in
    subst
    (λ (t : Tells). IsTold t (look c.args.volume) (look c.ended.result.volume)
    c.ended.result.trace.items c.ended.result.end.verdict) (sym c.in-Print.is) tt

pub returns-in-Verdict-clause-told : goal.returns-in-Verdict-clause-told
returns-in-Verdict-clause-told g c =
    let look = g.V.Volume.seen in
    let run = c.run_judged.result in
    judged_run c.args.tells (look c.args.volume) (look run.volume) run.trace.items
    run.end.end run.end.verdict c.run_judged.ensures.judged
