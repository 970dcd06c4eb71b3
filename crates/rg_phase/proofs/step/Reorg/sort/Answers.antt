use Rattle.rg_phase.specs.Made.{numbers_in}
use Rattle.rg_phase.proofs.Worked.{makes_sorted}
use Rattle.rg_phase.proofs.step.Reorg.sort.Goals as goal

pub returns-clause-made : goal.returns-clause-made
returns-clause-made c =
    let task = c.args.task.now in
    makes_sorted (numbers_in task) task.stage.drain task.copy task.capacity c.args.self.now.made
    c.args.inlet.now c.in_ok-draft.draft.options c.in_ok-draft.draft.shadow c.args.which
    c.sort.new.self c.requires.made c.requires.due c.requires.which c.in_ok-draft.ensures.drafts
    c.in_ok-draft.ensures.draft c.sort.ensures.rows c.sort.ensures.options
    c.in_ok-sort.ensures.ok
