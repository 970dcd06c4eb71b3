use Rattle.std.proofs.Common.{◌≡◌, ◌∙◌, ℕ, true, [], Option, refl, ap, subst}
use Rattle.rg_base.specs.declared.session.Session.{Session}
use Rattle.rg_model.specs.Turn.{turn_of}
use Rattle.rg_rules.specs.Stage.NumbersOf.{numbers_of}
use Rattle.rg_laws_utility.specs.TraceStage.Tending.{is_plain}
use Rattle.rg_engine.specs.Prepared.{while_running}
use Rattle.rg_feed.specs.declared.fold.item.Stage.{Stage}
use Rattle.rg_phase.proofs.Booking.{follows_task}
use Rattle.rg_phase.proofs.Eventful.{over_none}
use Rattle.rg_phase.proofs.Loading.{space_at, space_unfilled}
use Rattle.rg_phase.proofs.Making.{acts_booked, writes_none}
use Rattle.rg_phase.proofs.Steps.{next_runs, runs_some}
use Rattle.rg_phase.proofs.Told.{tells_unfilled, told_over, unwritten}
use Rattle.rg_phase.proofs.step.end.Goals as goal

pub book-requires-clause-written : goal.book-requires-clause-written
book-requires-clause-written g c =
    unwritten c.args.desk.now c.next_event-event.result c.next_event-event.ensures.unfilled

pub returns-clause-acts : goal.returns-clause-acts
returns-clause-acts g c =
    let look = g.V.Volume.seen in
    let old = c.args.desk.now in
    let s = c.args.task.now.stage in
    let event = c.next_event-event.result in
    let is = c.next_event-event.ensures in
    let next =
    subst
    (λ (n : ℕ). is_plain (turn_of n old.covered c.args.task.now.answer (numbers_of s) s.drain event)
    ≡ true)
    c.requires.begun.changes
    (subst
    (λ (o : Option Session).
    is_plain (turn_of c.args.task.now.changes o c.args.task.now.answer (numbers_of s) s.drain event)
    ≡ true)
    c.requires.begun.holder c.next_event-event.ensures.next) in
    λ made taken.
    acts_booked look old c.args.task.now.answer made taken old c.book.new.self event
    (runs_some old s c.requires.begun.stage) (writes_none look old)
    (next_runs old s c.args.task.now.answer event c.requires.begun.up c.requires.begun.stage
    is.booked next) is.booked
    (λ stops. absurd (cc (stops, is.device))) (λ quiet. refl)
    (tells_unfilled look old c.book.new.self event is.booked is.unfilled)
    (space_at old.stage s _ _ event c.requires.begun.stage (space_unfilled _ _ s event is.unfilled))
    (told_over made old.stage taken old.changes old.covered c.args.task.now.answer s event
    c.requires.over
    next) c.book.ensures

pub returns-clause-over : goal.returns-clause-over
returns-clause-over g c =
    let old = c.args.desk.now in
    let task = c.args.task.now in
    over_none task.stage task.changes task.holder task.answer c.next_event-event.result
    c.book.new.self.stage c.requires.over c.next_event-event.ensures.next
    (follows_task g.V.Volume.seen old old c.book.new.self task c.next_event-event.result []
    c.requires.begun (writes_none g.V.Volume.seen old) c.book.ensures)

pub returns-clause-shadow : goal.returns-clause-shadow
returns-clause-shadow g c =
    c.book.ensures.shadow
    ∙ ap (λ (o : Option Stage). while_running o c.args.desk.now.shadow)
    (returns-clause-over g c)
