use Rattle.std.proofs.Common.{◌≡◌, ℕ, true, Option, ◌∙◌, ap, subst}
use Rattle.rg_base.specs.declared.session.Session.{Session}
use Rattle.rg_model.specs.Turn.{turn_of}
use Rattle.rg_rules.specs.Stage.NumbersOf.{numbers_of}
use Rattle.rg_laws_utility.specs.TraceStage.Tending.{is_plain}
use Rattle.rg_phase.proofs.Booking.{task_makes, works_booked}
use Rattle.rg_phase.proofs.Eventful.{makes_or_stop}
use Rattle.rg_phase.proofs.Loading.{space_at, space_or_stop}
use Rattle.rg_phase.proofs.Making.{acts_booked, writes_shadow}
use Rattle.rg_phase.proofs.Steps.{next_same, or_stop_next, runs_some}
use Rattle.rg_phase.proofs.Told.{tells_or_stop, told_or_stop, unwritten_or_stop}
use Rattle.rg_phase.proofs.step.Reorg.work.Goals as goal

pub book-requires-clause-next : goal.book-requires-clause-next
book-requires-clause-next g c =
    let look = g.V.Volume.seen in
    let old = c.args.desk.now in
    let s = c.args.task.now.stage in
    let event = c.next_event-event.result in
    let next =
    subst
    (λ (n : ℕ). is_plain (turn_of n old.covered c.args.task.now.answer (numbers_of s) s.drain event)
    ≡ true)
    c.requires.begun.changes
    (subst
    (λ (o : Option Session).
    is_plain (turn_of c.args.task.now.changes o c.args.task.now.answer (numbers_of s) s.drain event)
    ≡ true)
    c.requires.begun.holder c.next_event-event.ensures.next) in
    let goes =
    or_stop_next old s c.args.task.now.answer event _ c.or_stop.result c.requires.begun.up
    c.requires.begun.stage c.requires.unswitched c.next_event-event.ensures.booked
    c.next_event-event.ensures.device next c.or_stop.ensures in
    next_same look old c.make-made.new.desk c.args.task.now.answer c.or_stop.result
    (writes_shadow look old c.make-made.new.desk c.make-made.ensures.desk) goes.2

pub book-requires-clause-written : goal.book-requires-clause-written
book-requires-clause-written g c =
    unwritten_or_stop c.make-made.new.desk c.next_event-event.result _ c.or_stop.result
    c.next_event-event.ensures.unfilled c.or_stop.ensures

pub returns-clause-acts : goal.returns-clause-acts
returns-clause-acts g c =
    let look = g.V.Volume.seen in
    let old = c.args.desk.now in
    let s = c.args.task.now.stage in
    let event = c.next_event-event.result in
    let next =
    subst
    (λ (n : ℕ). is_plain (turn_of n old.covered c.args.task.now.answer (numbers_of s) s.drain event)
    ≡ true)
    c.requires.begun.changes
    (subst
    (λ (o : Option Session).
    is_plain (turn_of c.args.task.now.changes o c.args.task.now.answer (numbers_of s) s.drain event)
    ≡ true)
    c.requires.begun.holder c.next_event-event.ensures.next) in
    let goes =
    or_stop_next old s c.args.task.now.answer event _ c.or_stop.result c.requires.begun.up
    c.requires.begun.stage c.requires.unswitched c.next_event-event.ensures.booked
    c.next_event-event.ensures.device next c.or_stop.ensures in
    acts_booked look old c.args.task.now.answer c.make-made.new.self.made
    c.make-made.new.inlet.taken
    c.make-made.new.desk c.book.new.self c.or_stop.result (runs_some old s c.requires.begun.stage)
    (writes_shadow look old c.make-made.new.desk c.make-made.ensures.desk) goes.2 goes.0
    (λ is. absurd (cc (is, goes.1))) (λ is. ap (λ d. d.volume) c.make-made.ensures.desk)
    (tells_or_stop look old c.book.new.self event _ c.or_stop.result
    c.next_event-event.ensures.booked c.next_event-event.ensures.unfilled c.or_stop.ensures)
    (space_at old.stage s _ _ c.or_stop.result c.requires.begun.stage
    (space_or_stop old.changes old.covered c.args.task.now.answer _ _ s event _ c.or_stop.result
    c.next_event-event.ensures.unfilled c.requires.unswitched next c.make-made.ensures.full
    c.or_stop.ensures))
    (told_or_stop c.make-made.new.self.made old.stage s c.make-made.new.inlet.taken event _
    c.or_stop.result c.requires.begun.stage c.make-made.ensures.told c.or_stop.ensures)
    c.book.ensures

pub make-made-requires-clause-made : goal.make-made-requires-clause-made
make-made-requires-clause-made g c =
    task_makes g.V.Volume.seen c.args.desk.now c.args.task.now c.args.self.now.made
    c.args.inlet.now c.requires.begun c.requires.hears c.requires.unswitched c.requires.works

pub returns-clause-works : goal.returns-clause-works
returns-clause-works g c =
    let look = g.V.Volume.seen in
    let old = c.args.desk.now in
    let task = c.args.task.now in
    let s = task.stage in
    let mid = c.make-made.new.desk in
    let made = c.make-made.new.self.made in
    let inlet = c.make-made.new.inlet in
    let event = c.next_event-event.result in
    let next =
    subst
    (λ (n : ℕ). is_plain (turn_of n old.covered task.answer (numbers_of s) s.drain event)
    ≡ true)
    c.requires.begun.changes
    (subst
    (λ (o : Option Session).
    is_plain (turn_of task.changes o task.answer (numbers_of s) s.drain event)
    ≡ true)
    c.requires.begun.holder c.next_event-event.ensures.next) in
    let goes =
    or_stop_next old s task.answer event _ c.or_stop.result c.requires.begun.up
    c.requires.begun.stage c.requires.unswitched c.next_event-event.ensures.booked
    c.next_event-event.ensures.device next c.or_stop.ensures in
    works_booked look old mid c.book.new.self task c.or_stop.result made inlet c.requires.begun
    (c.make-made.ensures.items ∙ c.requires.hears.items)
    (writes_shadow look old mid c.make-made.ensures.desk) c.book.ensures goes.2
    (makes_or_stop task c.requires.unswitched event _ c.or_stop.result made mid.shadow inlet
    c.or_stop.ensures c.make-made.ensures.made)
