use Rattle.std.proofs.Common.{List, sym, ◌∙◌, ap, subst}
use Rattle.std.specs.declared.vec.Vec.{Vec}
use Rattle.std.specs.declared.alloc.Global.{Global}
use Rattle.rg_outside.specs.Counts.{CountedCalls, counted_seen}
use Rattle.rg_restart.specs.Opening.{IsRefused}
use Rattle.rg_stmt.specs.declared.event.Entry.{Entry}
use Rattle.rg_run.specs.Asked.{HasAnswered, answers_in}
use Rattle.rg_run.specs.declared.played.RunEnd.{RunEnd}
use Rattle.rg_phase.proofs.Receiving.{behind_all}
use Rattle.rg_run.proofs.Asking.{same_unasked}
use Rattle.rg_run.specs.Whole.{Whole}
use Rattle.rg_run.proofs.Wholly.{begun_counted, begun_tidy, going_first, none_recorded}
use Rattle.rg_run.proofs.Wholly.{whole_refused, whole_run}
use Rattle.rg_run.proofs.run.run.Given as given
use Rattle.rg_run.proofs.run.run.Goals as goal

-- the count has just begun
pub open_desk-requires : goal.open_desk-requires
open_desk-requires g c = record {
  tidy = begun_tidy g.V.Volume.seen c.args.volume
      c.new.result c.new.ensures;
  recorded = none_recorded c.new-2.result.items c.new-2.ensures.items;
  counted = begun_counted g.V.Volume.seen c.args.volume
      c.new.result c.new.ensures;
}

pub play-requires-clause-going : goal.play-requires-clause-going
play-requires-clause-going g c = going_first g.V.Volume.seen c.args.volume c.new.result
    c.new.ensures g.O.Operator.answers c.args.operator c.in-Ok.desk
    c.in-Ok.ensures.opens (c.in-Ok.ensures.older ∙ c.new-2.ensures.items)

pub play-requires-clause-kept : goal.play-requires-clause-kept
play-requires-clause-kept g c = c.in-Ok.ensures.opens.opens.kept

pub play-requires-clause-shadow : goal.play-requires-clause-shadow
play-requires-clause-shadow g c = c.in-Ok.ensures.opens.opens.shadow

pub play-requires-clause-stage : goal.play-requires-clause-stage
play-requires-clause-stage g c = c.in-Ok.ensures.opens.opens.stage

pub play-requires-clause-behind : goal.play-requires-clause-behind
play-requires-clause-behind g c =
    behind_all c.in-Ok.inlet.items c.in-Ok.desk.feed
    (c.in-Ok.ensures.received ∙ sym c.in-Ok.ensures.opens.opens.feed)

-- the run that was counted is one of the volume below
played : (g : given.Over) (c : goal.After-uncounted g)
    → Whole (g.V.Volume.seen c.args.volume)
    (g.V.Volume.seen c.uncounted.result.volume)
    c.args.lines.items c.uncounted.result.trace.items c.uncounted.result.end
played g c =
    let look = g.V.Volume.seen in
    let below = c.uncounted.result.volume in
    subst
    (λ (es : Vec Entry Global). Whole (look c.args.volume) (look below) c.args.lines.items es.items
    c.uncounted.result.end) (sym c.uncounted.ensures.trace) (subst
    (λ (end : RunEnd). Whole (look c.args.volume) (look below) c.args.lines.items
    c.play.result.trace.items end) (sym c.uncounted.ensures.end)
    (whole_run g.V.Volume.seen c.args.volume below c.new.result c.new.ensures
    c.play.result.volume c.uncounted.ensures.volume c.uncounted.ensures.counted
    c.args.operator c.in-Ok.desk c.in-Ok.ensures.opens c.args.lines.items c.play.result.operator
    c.play.result.trace.items c.play.result.end c.play.ensures))

not_opened : (g : given.Over) (c : goal.After-drop-lines g)
    → Whole (g.V.Volume.seen c.args.volume)
    (g.V.Volume.seen
    c.uncounted-in-Err.result.volume) c.args.lines.items c.uncounted-in-Err.result.trace.items
    c.uncounted-in-Err.result.end
not_opened g c =
    let look = g.V.Volume.seen in
    let below = c.uncounted-in-Err.result.volume in
    let left = c.uncounted-in-Err.ensures in
    let fault = c.in-Err.fault in
    let n = c.refused.result.volume.calls in
    let counted_look =
    (λ (x : CountedCalls g.row.V.Denot). counted_seen (g.V.Volume.seen x.volume) x.calls) in
    subst
    (λ (end : RunEnd). Whole (look c.args.volume) (look below) c.args.lines.items
    c.uncounted-in-Err.result.trace.items end) (sym (left.end ∙ c.refused.ensures.end))
    (whole_refused g.V.Volume.seen c.args.volume below
    c.new.result c.new.ensures g.met.V.Volume.told_faults n left.counted c.args.lines.items
    c.uncounted-in-Err.result.trace.items fault.end
    (ap (λ (v : Vec Entry Global). v.items) left.trace ∙ c.refused.ensures.trace
    ∙ c.in-Err.ensures.trace ∙ c.new-2.ensures.items) (subst
    (λ (v : g.row.V.Denot). IsRefused (counted_look c.new.result)
    (counted_seen (g.V.Volume.seen v) n) fault.end) (sym left.volume)
    (subst
    (λ (x : CountedCalls g.row.V.Denot). IsRefused (counted_look c.new.result) (counted_look x)
    fault.end) (sym c.refused.ensures.volume) c.in-Err.ensures.refused)))

pub returns-in-Ok-clause-ends : goal.returns-in-Ok-clause-ends
returns-in-Ok-clause-ends g c = (played g c).ends

pub returns-in-Ok-clause-legal : goal.returns-in-Ok-clause-legal
returns-in-Ok-clause-legal g c = (played g c).legal

pub returns-in-Ok-clause-opening : goal.returns-in-Ok-clause-opening
returns-in-Ok-clause-opening g c = (played g c).opening

pub returns-in-Ok-clause-openings : goal.returns-in-Ok-clause-openings
returns-in-Ok-clause-openings g c = (played g c).openings

pub returns-in-Ok-clause-fit : goal.returns-in-Ok-clause-fit
returns-in-Ok-clause-fit g c = (played g c).fit

pub returns-in-Ok-clause-layout : goal.returns-in-Ok-clause-layout
returns-in-Ok-clause-layout g c = (played g c).layout

pub returns-in-Ok-clause-full : goal.returns-in-Ok-clause-full
returns-in-Ok-clause-full g c = (played g c).full

pub returns-in-Ok-clause-course : goal.returns-in-Ok-clause-course
returns-in-Ok-clause-course g c = (played g c).course

pub returns-in-Ok-clause-log_full : goal.returns-in-Ok-clause-log_full
returns-in-Ok-clause-log_full g c = (played g c).log_full

pub returns-in-Ok-clause-space : goal.returns-in-Ok-clause-space
returns-in-Ok-clause-space g c = (played g c).space

pub returns-in-Ok-clause-device : goal.returns-in-Ok-clause-device
returns-in-Ok-clause-device g c = (played g c).device

pub returns-in-Ok-clause-end : goal.returns-in-Ok-clause-end
returns-in-Ok-clause-end g c = (played g c).is_end

pub returns-in-Ok-clause-sound : goal.returns-in-Ok-clause-sound
returns-in-Ok-clause-sound g c = (played g c).sound

pub returns-in-Ok-clause-only : goal.returns-in-Ok-clause-only
returns-in-Ok-clause-only g c = (played g c).only

pub returns-in-Ok-clause-later : goal.returns-in-Ok-clause-later
returns-in-Ok-clause-later g c = (played g c).later

pub returns-in-Err-clause-ends : goal.returns-in-Err-clause-ends
returns-in-Err-clause-ends g c = (not_opened g c).ends

pub returns-in-Err-clause-legal : goal.returns-in-Err-clause-legal
returns-in-Err-clause-legal g c = (not_opened g c).legal

pub returns-in-Err-clause-opening : goal.returns-in-Err-clause-opening
returns-in-Err-clause-opening g c = (not_opened g c).opening

pub returns-in-Err-clause-openings : goal.returns-in-Err-clause-openings
returns-in-Err-clause-openings g c = (not_opened g c).openings

pub returns-in-Err-clause-fit : goal.returns-in-Err-clause-fit
returns-in-Err-clause-fit g c = (not_opened g c).fit

pub returns-in-Err-clause-layout : goal.returns-in-Err-clause-layout
returns-in-Err-clause-layout g c = (not_opened g c).layout

pub returns-in-Err-clause-full : goal.returns-in-Err-clause-full
returns-in-Err-clause-full g c = (not_opened g c).full

pub returns-in-Err-clause-course : goal.returns-in-Err-clause-course
returns-in-Err-clause-course g c = (not_opened g c).course

pub returns-in-Err-clause-log_full : goal.returns-in-Err-clause-log_full
returns-in-Err-clause-log_full g c = (not_opened g c).log_full

pub returns-in-Err-clause-space : goal.returns-in-Err-clause-space
returns-in-Err-clause-space g c = (not_opened g c).space

pub returns-in-Err-clause-device : goal.returns-in-Err-clause-device
returns-in-Err-clause-device g c = (not_opened g c).device

pub returns-in-Err-clause-end : goal.returns-in-Err-clause-end
returns-in-Err-clause-end g c = (not_opened g c).is_end

pub returns-in-Err-clause-sound : goal.returns-in-Err-clause-sound
returns-in-Err-clause-sound g c = (not_opened g c).sound

pub returns-in-Err-clause-only : goal.returns-in-Err-clause-only
returns-in-Err-clause-only g c = (not_opened g c).only

pub returns-in-Err-clause-later : goal.returns-in-Err-clause-later
returns-in-Err-clause-later g c = (not_opened g c).later

pub returns-in-Ok-clause-asked : goal.returns-in-Ok-clause-asked
returns-in-Ok-clause-asked g c =
    let answers = g.O.Operator.answers in
    subst
    (λ (o : g.row.O.Denot). HasAnswered (answers c.args.operator)
    (answers_in c.uncounted.result.trace.items) (answers o)) (sym c.uncounted.ensures.operator)
    (subst
    (λ (es : Vec Entry Global). HasAnswered (answers c.args.operator) (answers_in es.items)
    (answers c.play.result.operator)) (sym c.uncounted.ensures.trace)
    (subst
    (λ (o : g.row.O.Denot). HasAnswered (answers o) (answers_in c.play.result.trace.items)
    (answers c.play.result.operator)) c.in-Ok.ensures.opens.opens.asked c.play.ensures.asked))

pub returns-in-Err-clause-asked : goal.returns-in-Err-clause-asked
returns-in-Err-clause-asked g c =
    let answers = g.O.Operator.answers in
    let left = c.uncounted-in-Err.ensures in
    subst
    (λ (es : List Entry). HasAnswered (answers c.args.operator) (answers_in es)
    (answers c.uncounted-in-Err.result.operator))
    (sym
    (ap (λ (v : Vec Entry Global). v.items) left.trace ∙ c.refused.ensures.trace
    ∙ c.in-Err.ensures.trace ∙ c.new-2.ensures.items))
    (same_unasked answers c.args.operator c.uncounted-in-Err.result.operator
    (left.operator ∙ c.refused.ensures.operator ∙ c.in-Err.ensures.operator))
