use Rattle.std.proofs.Common.{refl, ap}
use Rattle.rg_base.specs.declared.verdict.StopReason.TheVariants as reasons
use Rattle.rg_desk.specs.Desk.{DeskState, MadeStep}
use Rattle.rg_image.specs.Rules.{copy_capacity}
use Rattle.rg_stmt.specs.declared.event.Event.TheVariants as events
use Rattle.rg_base.specs.Copies.{other_of}
use Rattle.rg_phase.proofs.Booking.{works_booked, works_copied}
use Rattle.rg_phase.proofs.Eventful.{stop_makes}
use Rattle.rg_phase.proofs.Loading.{space_at}
use Rattle.rg_phase.proofs.Making.{acts_booked, acts_copied, plain_some, writes_none, writes_same}
use Rattle.rg_phase.proofs.Steps.{made_runs, next_runs, runs_some}
use Rattle.rg_phase.proofs.Stops.{stop_next, unload_next}
use Rattle.rg_phase.proofs.step.Reorg.unload.Goals as goal
use Rattle.rg_laws_utility.specs.CopyWeight.Weighed.{weigh_feed}

pub feed_page-requires-clause-can : goal.feed_page-requires-clause-can
feed_page-requires-clause-can g c = record {
  stage = c.args.task.now.stage;
  stage_is = c.requires.begun.stage;
  next =
      λ rows few. unload_next c.args.task.now.stage c.args.task.now.answer c.requires.step
      c.next_page-page.result
      c.next_page-page.ensures rows few c.args.desk.now.changes c.args.desk.now.covered;
}

pub returns-in-Ok-clause-acts : goal.returns-in-Ok-clause-acts
returns-in-Ok-clause-acts g c =
    let look = g.V.Volume.seen in
    let old = c.args.desk.now in
    let s = c.args.task.now.stage in
    let answer = c.args.task.now.answer in
    let page = c.next_page-page.result in
    let rows = c.in-Ok.field-0 in
    let made = c.in-Ok.ensures.made in
    let plain = unload_next s answer c.requires.step page c.next_page-page.ensures rows made.few
    old.changes old.covered in
    acts_copied look old answer c.args.self.now.made c.args.inlet.now.taken old
    c.feed_page.new.self page rows
    (runs_some old s c.requires.begun.stage) (writes_none look old) refl
    (made_runs old s answer (events.Unload page rows) c.requires.begun.up c.requires.begun.stage
    refl
    (plain_some _ plain)) made

pub returns-in-Ok-clause-works : goal.returns-in-Ok-clause-works
returns-in-Ok-clause-works g c =
    works_copied g.V.Volume.seen c.args.desk.now c.feed_page.new.self c.args.task.now
    c.args.inlet.now c.args.self.now.made c.next_page-page.result c.in-Ok.field-0 c.requires.begun
    c.requires.step c.requires.hears c.next_page-page.ensures c.in-Ok.ensures.made
    c.requires.works

pub returns-in-Err-clause-acts : goal.returns-in-Err-clause-acts
returns-in-Err-clause-acts g c =
    let look = g.V.Volume.seen in
    let old = c.args.desk.now in
    let mid = c.feed_page.new.self in
    let s = c.args.task.now.stage in
    let answer = c.args.task.now.answer in
    let event = events.Stop reasons.NoMemory in
    acts_booked look old answer c.args.self.now.made c.args.inlet.now.taken mid c.book.new.self
    event
    (runs_some old s c.requires.begun.stage)
    (writes_same look old mid c.in-Err.ensures.err)
    (next_runs old s answer event c.requires.begun.up c.requires.begun.stage refl
    (stop_next s old.changes old.covered answer)) refl (λ is. absurd (cc (is)))
    (λ is. ap (λ d. d.volume) c.in-Err.ensures.err) tt (space_at old.stage
    s (copy_capacity (g.V.Volume.seen old.volume).capacities (other_of old.copy))
    (weigh_feed old.feed) event c.requires.begun.stage tt) tt c.book.ensures

pub returns-in-Err-clause-works : goal.returns-in-Err-clause-works
returns-in-Err-clause-works g c =
    let look = g.V.Volume.seen in
    let old = c.args.desk.now in
    let mid = c.feed_page.new.self in
    let task = c.args.task.now in
    let event = events.Stop reasons.NoMemory in
    works_booked look old mid c.book.new.self task event c.args.self.now.made c.args.inlet.now
    c.requires.begun c.requires.hears.items (writes_same look old mid c.in-Err.ensures.err)
    c.book.ensures
    (next_runs old task.stage task.answer event c.requires.begun.up c.requires.begun.stage refl
    (stop_next task.stage old.changes old.covered task.answer))
    (stop_makes task c.requires.step.unswitched reasons.NoMemory c.args.self.now.made mid.shadow
    c.args.inlet.now)
