use Rattle.std.proofs.Common.{◌≡◌, ◌++◌, List, [], ◌∷◌, sym, subst}
use Rattle.rg_run.specs.Outside.{IsEnd}
use Rattle.rg_run.specs.Shown.{ShowsOpened}
use Rattle.rg_run.specs.Table.{Ends}
use Rattle.rg_run.specs.Whole.{Whole}
use Rattle.rg_stmt.specs.declared.line.Line.{Line}
use Rattle.rg_stmt.specs.declared.line.Line.TheVariants.{Show}
use Rattle.reorgdb.proofs.Asked.{none_asked, run_asked}
use Rattle.reorgdb.proofs.Traces.{none_traced, run_traced}
use Rattle.reorgdb.proofs.work.show_layout.Goals as goal

pub returns-in-Ok-clause-shows : goal.returns-in-Ok-clause-shows
returns-in-Ok-clause-shows g c = λ words source show.
    let look = g.V.Volume.seen in
    let lines : c.push.new.self.items ≡ Show ∷ [] =
    subst (λ (ls : List Line). c.push.new.self.items ≡ ls ++ Show ∷ []) c.new-lines.ensures.items
    c.in-Ok.ensures.items in
    let ends = subst
    (λ (ls : List Line). Ends (look c.args.volume) (look c.run.result.volume) ls
    c.run.result.trace.items c.run.result.end) lines c.run.ensures.ends in
    c.print_shown.ensures.shows (look c.args.volume) (look c.print_shown.result.volume) words source
    (subst
    (λ (v : g.row.V.Denot). Ends (look c.args.volume) (look v) (Show ∷ []) c.run.result.trace.items
    c.run.result.end) (sym c.print_shown.ensures.volume) ends)
    (subst
    (λ (v : g.row.V.Denot). ShowsOpened (look c.args.volume) (look v) c.run.result.trace.items)
    (sym c.print_shown.ensures.volume) c.run.ensures.layout) show

pub returns-in-Ok-clause-finds : goal.returns-in-Ok-clause-finds
returns-in-Ok-clause-finds g c =
    let look = g.V.Volume.seen in
    let run = c.run.result in
    let lines : c.push.new.self.items ≡ Show ∷ [] =
    subst (λ (ls : List Line). c.push.new.self.items ≡ ls ++ Show ∷ []) c.new-lines.ensures.items
    c.in-Ok.ensures.items in
    let ends = subst
    (λ (ls : List Line). Ends (look c.args.volume) (look run.volume) ls run.trace.items run.end)
    lines c.run.ensures.ends in
    c.print_shown.ensures.finds (look c.args.volume) (look c.print_shown.result.volume)
    (subst
    (λ (v : g.row.V.Denot). Ends (look c.args.volume) (look v) (Show ∷ []) run.trace.items run.end)
    (sym c.print_shown.ensures.volume) ends)
    (subst (λ (v : g.row.V.Denot). IsEnd (look c.args.volume) (look v) run.trace.items run.end)
    (sym c.print_shown.ensures.volume) c.run.ensures.end)

pub returns-in-Ok-clause-traced : goal.returns-in-Ok-clause-traced
returns-in-Ok-clause-traced g c =
    let look = g.V.Volume.seen in
    let run = c.run.ensures in
    let whole : Whole (look c.args.volume) (look c.run.result.volume) c.push.new.self.items
    c.run.result.trace.items c.run.result.end = record {
      ends = run.ends;
      legal = run.legal;
      opening = run.opening;
      openings = run.openings;
      fit = run.fit;
      layout = run.layout;
      full = run.full;
      course = run.course;
      log_full = run.log_full;
      space = run.space;
      device = run.device;
      is_end = run.end;
      sound = run.sound;
      only = run.only;
      later = run.later;
    } in
    run_traced look (look c.args.volume) c.run.result.volume c.print_shown.result.volume
    c.push.new.self.items c.run.result.trace.items c.print_shown.result.trace.items c.run.result.end
    c.print_shown.ensures.volume c.print_shown.ensures.trace whole

pub returns-in-Err-clause-traced : goal.returns-in-Err-clause-traced
returns-in-Err-clause-traced g c =
    none_traced g.V.Volume.seen c.args.volume
    c.bare.result.volume c.bare.result.trace.items c.bare.ensures.volume c.bare.ensures.trace

pub returns-in-Ok-clause-asked : goal.returns-in-Ok-clause-asked
returns-in-Ok-clause-asked g c =
    run_asked g.O.Operator.answers c.args.operator c.run.result.operator
    c.print_shown.result.operator c.run.result.trace.items c.print_shown.result.trace.items
    c.print_shown.ensures.operator c.print_shown.ensures.trace c.run.ensures.asked

pub returns-in-Err-clause-asked : goal.returns-in-Err-clause-asked
returns-in-Err-clause-asked g c = none_asked g.O.Operator.answers c.args.operator
    c.bare.result.operator c.bare.result.trace.items c.bare.ensures.operator c.bare.ensures.trace
