use Rattle.std.proofs.Common.{[], Some, Err, refl, sym, ap, ◌∙◌, subst}
use Rattle.rg_base.specs.declared.verdict.StopReason.TheVariants as reasons
use Rattle.rg_desk.specs.Desk.{MadeStep, TellsWritten}
use Rattle.rg_stmt.specs.declared.event.Event.{Event}
use Rattle.rg_stmt.specs.declared.event.Event.TheVariants as events
use Rattle.rg_image.specs.Rules.{copy_capacity}
use Rattle.rg_base.specs.Copies.{other_of}
use Rattle.rg_base.specs.declared.step.Step.TheVariants as steps
use Rattle.rg_phase.proofs.Booking.{task_makes, works_booked}
use Rattle.rg_phase.proofs.Due.{due_for}
use Rattle.rg_phase.proofs.Eventful.{stop_makes, written_makes}
use Rattle.rg_phase.proofs.Loading.{space_at}
use Rattle.rg_phase.proofs.Making.{acts_booked}
use Rattle.rg_phase.proofs.Steps.{next_runs, runs_some}
use Rattle.rg_phase.proofs.Stops.{device_next, stop_next, written_next}
use Rattle.rg_phase.proofs.Told.{tells_written, written_kept}
use Rattle.rg_phase.proofs.step.Reorg.write.Goals.{in-Ok, in-Err-Device, in-Err-NoMemory}
use Rattle.rg_phase.proofs.step.Reorg.write.Goals as goal
use Rattle.rg_laws_utility.specs.CopyWeight.Weighed.{weigh_feed}

pub returns-clause-acts : goal.returns-clause-acts
returns-clause-acts g c =
    let look = g.V.Volume.seen in
    let old = c.args.desk.now in
    let mid = c.put.new.desk in
    let new = c.book.new.self in
    let s = c.args.task.now.stage in
    let answer = c.args.task.now.answer in
    let up = c.requires.begun.up in
    let stage = c.requires.begun.stage in
    elim c.match-put.branch [
      | in-Ok w ↦
          let event = events.Written w.in-Ok.pages in
          acts_booked look old answer c.put.new.self.made c.args.inlet.now.taken mid new event
          (runs_some old s stage) c.put.ensures.writes
          (next_runs old s answer event up stage refl
          (written_next s answer c.args.granted c.requires.step old.changes w.in-Ok.pages
          old.covered)) refl (λ is. absurd (cc (is))) (λ is. absurd (cc (is)))
          (written_kept look old mid new s answer c.args.granted w.in-Ok.pages c.requires.step up
          stage c.put.ensures.writes w.in-Ok.ensures.kept
          (subst (λ (e : Event). MadeStep look mid (Some answer) e [] new) w.event-is
          c.book.ensures))
          (space_at old.stage s
          (copy_capacity (g.V.Volume.seen old.volume).capacities (other_of old.copy))
          (weigh_feed old.feed) event stage tt) tt
          (subst (λ (e : Event). MadeStep look mid (Some answer) e [] new) w.event-is
          c.book.ensures)
      | in-Err-Device w ↦
          let event = events.Stop reasons.Device in
          acts_booked look old answer c.put.new.self.made c.args.inlet.now.taken mid new event
          (runs_some old s stage) c.put.ensures.writes
          (next_runs old s answer event up stage refl
          (device_next s answer c.args.granted c.requires.step old.changes old.covered)) refl
          (λ is. c.put.ensures.device (w.in-Err-Device.is ∙ ap Err w.in-Err-Device.field-0-is))
          (λ is. absurd (cc (is))) tt
          (space_at old.stage s
          (copy_capacity (g.V.Volume.seen old.volume).capacities (other_of old.copy))
          (weigh_feed old.feed) event stage tt) tt
          (subst (λ (e : Event). MadeStep look mid (Some answer) e [] new) w.event-is
          c.book.ensures)
      | in-Err-NoMemory w ↦
          let event = events.Stop reasons.NoMemory in
          acts_booked look old answer c.put.new.self.made c.args.inlet.now.taken mid new event
          (runs_some old s stage) c.put.ensures.writes
          (next_runs old s answer event up stage refl (stop_next s old.changes old.covered answer))
          refl (λ is. absurd (cc (is)))
          (λ is. c.put.ensures.none (w.in-Err-NoMemory.is ∙ ap Err w.in-Err-NoMemory.field-0-is)) tt
          (space_at old.stage s
          (copy_capacity (g.V.Volume.seen old.volume).capacities (other_of old.copy))
          (weigh_feed old.feed) event stage tt) tt
          (subst (λ (e : Event). MadeStep look mid (Some answer) e [] new) w.event-is
          c.book.ensures)
    ]

pub book-requires-clause-written : goal.book-requires-clause-written
book-requires-clause-written g c =
    let mid = c.put.new.desk in
    elim c.match-put.branch [
      | in-Ok w ↦
          subst (TellsWritten mid) (sym w.event-is)
          (tells_written g.V.Volume.seen mid w.in-Ok.pages w.in-Ok.ensures.kept)
      | in-Err-Device w ↦ subst (TellsWritten mid) (sym w.event-is) tt
      | in-Err-NoMemory w ↦ subst (TellsWritten mid) (sym w.event-is) tt
    ]

pub put-requires-clause-made : goal.put-requires-clause-made
put-requires-clause-made g c =
    task_makes g.V.Volume.seen c.args.desk.now c.args.task.now c.args.self.now.made
    c.args.inlet.now c.requires.begun c.requires.hears c.requires.step.unswitched c.requires.works

pub put-requires-clause-due : goal.put-requires-clause-due
put-requires-clause-due g c =
    due_for c.args.task.now.stage c.args.task.now.answer (steps.Write c.args.granted)
    c.requires.step

pub returns-clause-works : goal.returns-clause-works
returns-clause-works g c =
    let look = g.V.Volume.seen in
    let old = c.args.desk.now in
    let mid = c.put.new.desk in
    let new = c.book.new.self in
    let task = c.args.task.now in
    let s = task.stage in
    let answer = task.answer in
    let made = c.put.new.self.made in
    let inlet = c.args.inlet.now in
    let up = c.requires.begun.up in
    let stage = c.requires.begun.stage in
    let unswitched = c.requires.step.unswitched in
    elim c.match-put.branch [
      | in-Ok w ↦
          let event = events.Written w.in-Ok.pages in
          works_booked look old mid new task event made inlet c.requires.begun
          c.requires.hears.items c.put.ensures.writes
          (subst (λ (e : Event). MadeStep look mid (Some answer) e [] new) w.event-is
          c.book.ensures)
          (next_runs old s answer event up stage refl
          (written_next s answer c.args.granted c.requires.step old.changes w.in-Ok.pages
          old.covered))
          (written_makes task unswitched c.args.granted c.requires.step w.in-Ok.pages made
          mid.shadow inlet w.in-Ok.ensures.made)
      | in-Err-Device w ↦
          let event = events.Stop reasons.Device in
          works_booked look old mid new task event made inlet c.requires.begun
          c.requires.hears.items c.put.ensures.writes
          (subst (λ (e : Event). MadeStep look mid (Some answer) e [] new) w.event-is
          c.book.ensures)
          (next_runs old s answer event up stage refl
          (device_next s answer c.args.granted c.requires.step old.changes old.covered))
          (stop_makes task unswitched reasons.Device made mid.shadow inlet)
      | in-Err-NoMemory w ↦
          let event = events.Stop reasons.NoMemory in
          works_booked look old mid new task event made inlet c.requires.begun
          c.requires.hears.items c.put.ensures.writes
          (subst (λ (e : Event). MadeStep look mid (Some answer) e [] new) w.event-is
          c.book.ensures)
          (next_runs old s answer event up stage refl (stop_next s old.changes old.covered answer))
          (stop_makes task unswitched reasons.NoMemory made mid.shadow inlet)
    ]
