use Rattle.std.proofs.Common.{Some, refl, sym, ◌∙◌, ap, subst}
use Rattle.rg_image.specs.Rules.{copy_capacity}
use Rattle.rg_base.specs.Copies.{other_of}
use Rattle.rg_phase.specs.Made.{StepMakes, numbers_in}
use Rattle.rg_phase.specs.declared.made.Made.{Made}
use Rattle.rg_phase.proofs.Worked.{makes_back}
use Rattle.rg_phase.proofs.step.Reorg.take_back.Goals as goal

pub returns-clause-made : goal.returns-clause-made
returns-clause-made g c =
    let task = c.args.task.now in
    let desk = c.args.desk.now in
    let look = g.V.Volume.seen in
    let is = c.in-Some.ensures.is in
    let same = c.in-Some.ensures.same in
    makes_back (numbers_in task) task.stage.drain task.copy task.capacity c.in-Written.options
    desk.shadow (record { shadow = c.in-Some.shadow; options = c.in-Written.options })
    c.args.inlet.now c.requires.indexed
    (subst
    (λ (m : Made). StepMakes (numbers_in task) task.stage.drain task.copy task.capacity m
    desk.shadow c.args.inlet.now) c.in-Written.is c.requires.made)
    (sym c.in-Some.ensures.shade) refl
    (is.copy ∙ ap (λ d. other_of d.copy) same ∙ sym c.requires.begun.copy)
    (is.capacity
    ∙ ap (λ d. copy_capacity (look d.volume).capacities (other_of d.copy)) same
    ∙ sym c.requires.begun.capacity)
    is.built
