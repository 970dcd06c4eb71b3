use Rattle.std.proofs.Common.{◌≡◌, ◌∙◌, None, sym, ap, subst, arith}
use Rattle.rg_reload.specs.Reloading.{Reloading}
use Rattle.rg_phase.specs.Made.{Packs, StepMakes, numbers_in}
use Rattle.rg_phase.specs.declared.made.Made.{Made}
use Rattle.rg_phase.proofs.Worked.{loaded_drafts, packed_count, packs_begun}
use Rattle.rg_phase.proofs.step.Reorg.take_draft.Goals as goal

pub load-requires-clause-whole : goal.load-requires-clause-whole
load-requires-clause-whole c =
    let task = c.args.task.now in
    let u = numbers_in task in
    let x = c.in_ok-begin-in-Nothing.field-0 in
    let makes = subst
    (λ (m : Made). StepMakes u task.stage.drain task.copy task.capacity m None c.args.inlet.now)
    (sym c.replace.ensures.value ∙ c.in-Nothing.is) c.requires.made in
    omega (
      arith,
      packed_count x.options x.packer c.args.inlet.now u.unloaded c.requires.rows
          c.in_ok-begin-in-Nothing.ensures.packing,
      makes.made_is.1.reloaded,
      c.requires.due.1,
    )

pub load-requires-in-Packing-clause-whole : goal.load-requires-in-Packing-clause-whole
load-requires-in-Packing-clause-whole c =
    let task = c.args.task.now in
    let u = numbers_in task in
    let x = c.in-Packing.packing in
    let makes = subst
    (λ (m : Made). StepMakes u task.stage.drain task.copy task.capacity m None c.args.inlet.now)
    (sym c.replace.ensures.value ∙ c.in-Packing.is) c.requires.made in
    omega (
      arith,
      packed_count x.options x.packer c.args.inlet.now u.unloaded c.requires.rows
          makes.made_is.3,
      makes.made_is.2.placed,
      c.requires.due.1,
    )

pub returns-in_ok-begin-in-Nothing-clause-drafts : goal.returns-in_ok-begin-in-Nothing-clause-drafts
returns-in_ok-begin-in-Nothing-clause-drafts c =
    let task = c.args.task.now in
    let u = numbers_in task in
    let x = c.in_ok-begin-in-Nothing.field-0 in
    let makes = subst
    (λ (m : Made). StepMakes u task.stage.drain task.copy task.capacity m None c.args.inlet.now)
    (sym c.replace.ensures.value ∙ c.in-Nothing.is) c.requires.made in
    loaded_drafts u task.copy task.capacity x c.load.result
    (packs_begun task x.packer c.in_ok-begin-in-Nothing.ensures.start makes.made_is.1
    c.requires.due.0) c.requires.due.1 c.in_ok-begin-in-Nothing.ensures.packing.options_are
    c.load.ensures.options c.load.ensures.copy c.load.ensures.capacity c.load.ensures.unsorted

pub returns-in-Packing-clause-drafts : goal.returns-in-Packing-clause-drafts
returns-in-Packing-clause-drafts c =
    let task = c.args.task.now in
    let u = numbers_in task in
    let x = c.in-Packing.packing in
    let makes = subst
    (λ (m : Made). StepMakes u task.stage.drain task.copy task.capacity m None c.args.inlet.now)
    (sym c.replace.ensures.value ∙ c.in-Packing.is) c.requires.made in
    loaded_drafts u task.copy task.capacity x c.load-in-Packing.result makes.made_is.2
    c.requires.due.1 makes.made_is.3.options_are c.load-in-Packing.ensures.options
    c.load-in-Packing.ensures.copy c.load-in-Packing.ensures.capacity
    c.load-in-Packing.ensures.unsorted
