use Rattle.std.proofs.Common.{None, subst}
use Rattle.rg_phase.specs.Made.{StepMakes, numbers_in}
use Rattle.rg_phase.specs.declared.made.Made.{Made}
use Rattle.rg_phase.proofs.Worked.{makes_built, on_ok}
use Rattle.rg_phase.proofs.Turned.{opened_turn}
use Rattle.rg_phase.proofs.step.Reorg.build.Goals as goal

pub returns-clause-made : goal.returns-clause-made
returns-clause-made c =
    let task = c.args.task.now in
    let inlet = c.args.inlet.now in
    let makes = subst
    (λ (m : Made). StepMakes (numbers_in task) task.stage.drain task.copy task.capacity m None
    inlet)
    c.in-Drafted.is c.requires.made in
    on_ok c.build.result
    (makes_built (numbers_in task) task.stage.drain task.copy task.capacity c.in-Drafted.draft
    c.build.new.self inlet c.args.which makes c.requires.due c.requires.which c.build.ensures.rows
    c.build.ensures.options)
    c.build.ensures.ok
