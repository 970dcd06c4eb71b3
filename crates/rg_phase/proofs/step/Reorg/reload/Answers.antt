use Rattle.std.proofs.Common.{◌≡◌, ℕ, Option, refl, sym, subst}
use Rattle.rg_image.specs.Rules.{copy_capacity}
use Rattle.rg_laws_utility.specs.CopyWeight.Weighed.{weigh_feed}
use Rattle.rg_base.specs.Copies.{other_of}
use Rattle.rg_engine.specs.Prepared.{PreparedSeen}
use Rattle.rg_phase.specs.Made.{TaskMakes}
use Rattle.rg_phase.proofs.Booking.{task_makes, works_booked}
use Rattle.rg_phase.proofs.Eventful.{page_makes, reload_kept}
use Rattle.rg_phase.specs.Step.{HasPagesFor}
use Rattle.rg_phase.specs.Working.{IsPageOf, IsReloadEvent}
use Rattle.rg_phase.proofs.Loading.{reload_left, reload_may, reload_room, reload_tells, space_at}
use Rattle.rg_phase.proofs.Making.{acts_booked, writes_none}
use Rattle.rg_phase.proofs.Steps.{next_runs, runs_some}
use Rattle.rg_phase.proofs.Stops.{reload_next}
use Rattle.rg_phase.proofs.Told.{tells_page, told_page, unwritten_page}
use Rattle.rg_phase.proofs.step.Reorg.reload.Goals as goal

pub book-requires-clause-next : goal.book-requires-clause-next
book-requires-clause-next g c =
    let old = c.args.desk.now in
    let s = c.args.task.now.stage in
    let event = c.reload_event-event.result in
    let is : IsReloadEvent s event =
    subst (IsReloadEvent s) (sym c.reload_event-event.ensures)
    (reload_may s c.args.task.now.capacity c.fill-filled.result c.fill-filled.ensures.page) in
    next_runs old s c.args.task.now.answer event c.requires.begun.up c.requires.begun.stage
    is.booked
    (reload_next s c.args.task.now.answer c.requires.step event is old.changes old.covered)

pub book-requires-clause-written : goal.book-requires-clause-written
book-requires-clause-written g c =
    unwritten_page c.args.desk.now c.fill-filled.result c.reload_event-event.result
    (subst (IsPageOf c.fill-filled.result) (sym c.reload_event-event.ensures)
    (reload_tells c.fill-filled.result))

pub returns-clause-acts : goal.returns-clause-acts
returns-clause-acts g c =
    let look = g.V.Volume.seen in
    let old = c.args.desk.now in
    let s = c.args.task.now.stage in
    let event = c.reload_event-event.result in
    let is : IsReloadEvent s event =
    subst (IsReloadEvent s) (sym c.reload_event-event.ensures)
    (reload_may s c.args.task.now.capacity c.fill-filled.result c.fill-filled.ensures.page) in
    let next = next_runs old s c.args.task.now.answer event c.requires.begun.up
    c.requires.begun.stage is.booked
    (reload_next s c.args.task.now.answer c.requires.step event is old.changes old.covered) in
    let capacity : c.args.task.now.capacity
    ≡ copy_capacity (g.V.Volume.seen old.volume).capacities (other_of old.copy) =
    c.requires.begun.capacity in
    acts_booked look old c.args.task.now.answer c.fill-filled.new.self.made c.args.inlet.now.taken
    old
    c.book.new.self event (runs_some old s c.requires.begun.stage) (writes_none look old) next
    is.booked
    (λ stops. absurd (cc (stops, is.device))) (λ quiet. refl)
    (tells_page look old c.book.new.self c.fill-filled.result event
    (subst (IsPageOf c.fill-filled.result) (sym c.reload_event-event.ensures)
    (reload_tells c.fill-filled.result)))
    (space_at old.stage s _ (weigh_feed old.feed) event c.requires.begun.stage
    (subst (λ (n : ℕ). HasPagesFor n (weigh_feed old.feed) s event) capacity
    (subst (HasPagesFor c.args.task.now.capacity (weigh_feed old.feed) s)
    (sym c.reload_event-event.ensures)
    (reload_room s c.args.task.now.capacity (weigh_feed old.feed) c.fill-filled.result
    c.requires.step.unswitched (reload_left s c.args.task.now.answer c.requires.step)
    c.fill-filled.ensures.page))))
    (told_page c.fill-filled.new.self.made old.stage s c.args.inlet.now.taken c.fill-filled.result
    event c.requires.begun.stage c.fill-filled.ensures.filled
    (subst (IsPageOf c.fill-filled.result) (sym c.reload_event-event.ensures)
    (reload_tells c.fill-filled.result)))
    c.book.ensures

pub fill-filled-requires-clause-made : goal.fill-filled-requires-clause-made
fill-filled-requires-clause-made g c =
    let task = c.args.task.now in
    let made = c.args.self.now.made in
    let inlet = c.args.inlet.now in
    let makes = task_makes g.V.Volume.seen c.args.desk.now task made inlet c.requires.begun
    c.requires.hears c.requires.step.unswitched c.requires.works in
    subst (λ (k : Option PreparedSeen). TaskMakes task made k inlet)
    (reload_kept task c.requires.step made c.args.desk.now.shadow inlet makes) makes

pub returns-clause-works : goal.returns-clause-works
returns-clause-works g c =
    let look = g.V.Volume.seen in
    let old = c.args.desk.now in
    let task = c.args.task.now in
    let s = task.stage in
    let event = c.reload_event-event.result in
    let is : IsReloadEvent s event =
    subst (IsReloadEvent s) (sym c.reload_event-event.ensures)
    (reload_may s c.args.task.now.capacity c.fill-filled.result c.fill-filled.ensures.page) in
    let made = c.fill-filled.new.self.made in
    let inlet = c.args.inlet.now in
    let makes = task_makes look old task c.args.self.now.made inlet c.requires.begun
    c.requires.hears c.requires.step.unswitched c.requires.works in
    works_booked look old old c.book.new.self task event made inlet c.requires.begun
    c.requires.hears.items (writes_none look old) c.book.ensures
    (next_runs old task.stage task.answer event c.requires.begun.up c.requires.begun.stage
    is.booked
    (reload_next task.stage task.answer c.requires.step event is old.changes old.covered))
    (page_makes task c.requires.step.unswitched c.requires.step c.fill-filled.result event made
    old.shadow inlet (subst (IsPageOf c.fill-filled.result) (sym c.reload_event-event.ensures)
    (reload_tells c.fill-filled.result))
    (reload_kept task c.requires.step c.args.self.now.made old.shadow inlet makes)
    c.fill-filled.ensures.made)
