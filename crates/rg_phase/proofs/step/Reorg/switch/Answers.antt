use Rattle.std.proofs.Common.{◌≡◌, None, refl, sym, ◌∙◌, ap, subst}
use Rattle.rg_base.specs.declared.verdict.StopReason.TheVariants as reasons
use Rattle.rg_desk.specs.Desk.{CanCommit, MadeFall, MadeSwitch}
use Rattle.rg_desk.proofs.Committing.{by_result}
use Rattle.rg_stmt.specs.declared.event.Event.TheVariants as events
use Rattle.rg_base.specs.Copies.{other_of}
use Rattle.rg_image.specs.Rules.{copy_capacity}
use Rattle.rg_phase.specs.Step.{Acts}
use Rattle.rg_phase.specs.declared.made.Made.TheVariants.{Nothing}
use Rattle.rg_base.specs.declared.step.Step.TheVariants as steps
use Rattle.rg_phase.specs.Made.{Works}
use Rattle.rg_phase.proofs.Booking.{task_makes, works_booked, works_fallen, works_switched}
use Rattle.rg_phase.proofs.Due.{due_for}
use Rattle.rg_phase.proofs.Eventful.{stop_makes}
use Rattle.rg_phase.proofs.Loading.{space_at}
use Rattle.rg_phase.proofs.Making.{acts_booked, acts_fallen, acts_switched, writes_none}
use Rattle.rg_phase.proofs.Making.{writes_same}
use Rattle.rg_phase.proofs.Steps.{made_runs, next_runs, runs_some}
use Rattle.rg_phase.proofs.Stops.{stop_next, switch_next}
use Rattle.rg_phase.proofs.Switchable.{can_commit}
use Rattle.rg_phase.proofs.step.Reorg.switch.Goals as goal
use Rattle.rg_laws_utility.specs.CopyWeight.Weighed.{weigh_feed}

pub commit_switch-requires-clause-can : goal.commit_switch-requires-clause-can
commit_switch-requires-clause-can g c =
    subst (λ d. CanCommit d c.args.task.now.answer c.in-Ok.sides) (sym c.in-Ok.ensures.same)
    (can_commit c.args.desk.now c.args.task.now.stage c.args.task.now.answer c.in-Ok.sides
    c.requires.begun.stage
    c.requires.step c.in-Ok.ensures.sides)

pub returns-in-Ok-clause-acts : goal.returns-in-Ok-clause-acts
returns-in-Ok-clause-acts g c =
    let look = g.V.Volume.seen in
    let mid = c.sides.new.desk in
    let new = c.commit_switch.new.self in
    let s = c.args.task.now.stage in
    let answer = c.args.task.now.answer in
    let sides = c.in-Ok.sides in
    let same = c.in-Ok.ensures.same in
    let up = ap (λ d. d.down) same ∙ c.requires.begun.up in
    let stage = ap (λ d. d.stage) same ∙ c.requires.begun.stage in
    subst (λ d. Acts look d answer Nothing c.args.inlet.now.taken new) same
    (by_result c.commit_switch.result (MadeSwitch look mid answer sides new)
    (MadeFall look mid answer new) (Acts look mid answer Nothing c.args.inlet.now.taken new)
    c.commit_switch.ensures.ok c.commit_switch.ensures.err
    (λ made.
    acts_switched look mid answer Nothing c.args.inlet.now.taken new sides (runs_some mid s stage)
    (made_runs mid s answer (events.Switched (other_of mid.copy) sides) up stage refl
    (switch_next s answer c.requires.step mid.changes mid.covered
    (events.Switched (other_of mid.copy) sides) refl)) made)
    (λ made.
    acts_fallen look mid answer Nothing c.args.inlet.now.taken new (runs_some mid s stage)
    (made_runs mid s answer (events.Stop reasons.Device) up stage refl
    (switch_next s answer c.requires.step mid.changes mid.covered (events.Stop reasons.Device)
    refl)) made))

pub returns-in-Ok-clause-works : goal.returns-in-Ok-clause-works
returns-in-Ok-clause-works g c =
    let look = g.V.Volume.seen in
    let mid = c.sides.new.desk in
    let new = c.commit_switch.new.self in
    let answer = c.args.task.now.answer in
    let inlet = c.args.inlet.now in
    let heard = c.requires.hears.items ∙ sym (ap (λ d. d.feed) c.in-Ok.ensures.same) in
    by_result c.commit_switch.result (MadeSwitch look mid answer c.in-Ok.sides new)
    (MadeFall look mid answer new) (Works look Nothing inlet new) c.commit_switch.ensures.ok
    c.commit_switch.ensures.err
    (works_switched look mid new answer inlet heard c.in-Ok.sides)
    (works_fallen look mid new answer inlet heard)

pub returns-in-Err-clause-acts : goal.returns-in-Err-clause-acts
returns-in-Err-clause-acts g c =
    let look = g.V.Volume.seen in
    let mid = c.sides.new.desk in
    let new = c.book.new.self in
    let s = c.args.task.now.stage in
    let answer = c.args.task.now.answer in
    let same = c.sides.ensures.same in
    let up = ap (λ d. d.down) same ∙ c.requires.begun.up in
    let stage = ap (λ d. d.stage) same ∙ c.requires.begun.stage in
    let event = events.Stop reasons.NoMemory in
    subst (λ d. Acts look d answer c.args.self.now.made c.args.inlet.now.taken new) same
    (acts_booked look mid answer c.args.self.now.made c.args.inlet.now.taken mid new event
    (runs_some mid s stage) (writes_none look mid)
    (next_runs mid s answer event up stage refl (stop_next s mid.changes mid.covered answer)) refl
    (λ is. absurd (cc (is))) (λ is. refl) tt (space_at mid.stage s
    (copy_capacity (g.V.Volume.seen mid.volume).capacities (other_of mid.copy))
    (weigh_feed mid.feed) event stage tt) tt c.book.ensures)

pub sides-requires-clause-made : goal.sides-requires-clause-made
sides-requires-clause-made g c =
    task_makes g.V.Volume.seen c.args.desk.now c.args.task.now c.args.self.now.made
    c.args.inlet.now c.requires.begun c.requires.hears c.requires.step.unswitched c.requires.works

pub sides-requires-clause-due : goal.sides-requires-clause-due
sides-requires-clause-due g c =
    due_for c.args.task.now.stage c.args.task.now.answer steps.Switch c.requires.step

pub returns-in-Err-clause-works : goal.returns-in-Err-clause-works
returns-in-Err-clause-works g c =
    let look = g.V.Volume.seen in
    let old = c.args.desk.now in
    let mid = c.sides.new.desk in
    let task = c.args.task.now in
    let made = c.args.self.now.made in
    let event = events.Stop reasons.NoMemory in
    works_booked look old mid c.book.new.self task event made c.args.inlet.now c.requires.begun
    c.requires.hears.items (writes_same look old mid c.sides.ensures.same) c.book.ensures
    (next_runs old task.stage task.answer event c.requires.begun.up c.requires.begun.stage refl
    (stop_next task.stage old.changes old.covered task.answer))
    (stop_makes task c.requires.step.unswitched reasons.NoMemory made mid.shadow c.args.inlet.now)
