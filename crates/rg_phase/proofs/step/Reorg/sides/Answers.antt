use Rattle.rg_desk.specs.Desk.{AreSides}
use Rattle.rg_phase.specs.Working.{AreSidesToSwitch}
use Rattle.rg_phase.specs.Made.{numbers_in}
use Rattle.rg_phase.proofs.Switchable.{caught_up, current_now, if_ok, sides_now, written_now}
use Rattle.rg_phase.proofs.step.Reorg.sides.Goals as goal

pub sides-requires-clause-current : goal.sides-requires-clause-current
sides-requires-clause-current g c =
    current_now g.V.Volume.seen c.args.desk.now c.args.inlet.now c.args.task.now
    c.args.self.now.made c.requires.begun c.requires.made c.requires.due.1

pub returns-clause-sides : goal.returns-clause-sides
returns-clause-sides g c =
    let look = g.V.Volume.seen in
    let desk = c.args.desk.now in
    let task = c.args.task.now in
    let inlet = c.args.inlet.now in
    let made = c.args.self.now.made in
    let written = written_now (numbers_in task) task.stage.drain task.copy task.capacity made
    desk.shadow inlet c.requires.due.1 c.requires.made.made_is in
    if_ok c.sides.result (AreSides desk) (AreSidesToSwitch desk task.stage)
    (λ sides are.
    sides_now desk inlet task made sides c.requires.hears c.requires.begun.stage c.requires.made
    c.requires.due
    (caught_up look desk inlet task c.requires.begun c.requires.hears c.requires.made.unswitched
    written.keeps.last c.requires.made.taken written.draft.within)
    (current_now look desk inlet task made c.requires.begun c.requires.made c.requires.due.1) are)
    c.sides.ensures.sides
