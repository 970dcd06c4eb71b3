use Rattle.std.proofs.Common.{◌≤◌, ℕ, Some, ◌∙◌, ap, subst}
use Rattle.rg_base.specs.declared.set.Set.{Set}
use Rattle.rg_outside.specs.Made.{MadeWrite}
use Rattle.rg_engine.proofs.Flushing.{force_failed, page_written, write_failed}
use Rattle.rg_engine.proofs.engine.Engine.write_page.Goals as goal

pub returns-in-Err : goal.returns-in-Err
returns-in-Err g c =
    let seen = g.V.Volume.seen in
    let on = c.requires.is_on in
    force_failed c.args.copy c.args.self.now c.spell-position.new.self c.force_to.new.self
    (seen c.args.volume.now) (seen c.force_to.new.volume) c.spell-position.ensures.same
    c.force_to.ensures.forces c.requires.counted
    on.epoch c.args.marks.now.items c.args.number on.is_on c.requires.dirty c.in-Err.ensures.cause

pub returns-in-Err-write : goal.returns-in-Err-write
returns-in-Err-write g c =
    let seen = g.V.Volume.seen in
    let on = c.requires.is_on in
    write_failed c.args.copy c.args.self.now c.spell-position.new.self c.force_to.new.self
    (seen c.args.volume.now) (seen c.force_to.new.volume) c.spell-position.ensures.same
    c.force_to.ensures.forces c.requires.counted
    on.epoch c.args.marks.now.items c.set_mark.new.marks.items on.is_on c.args.number
    c.spell-position.new.into (seen c.write.new.self) c.write.result
    c.requires.dirty c.set_mark.ensures.here c.set_mark.ensures.others
    (subst (λ (n : ℕ). n ≤ c.force_to.new.self.log.forced) c.spell-position.ensures.position
    c.in-Ok.ensures.ok) c.spell-position.ensures.spells
    (subst
    (λ (s : Set). MadeWrite c.write.result (g.V.Volume.seen c.force_to.new.volume).told s
    c.args.number
    c.spell-position.new.into (g.V.Volume.seen c.write.new.self).told) c.set.ensures.is
    c.write.ensures.made)
    c.write.ensures.capacities c.write.ensures.cause c.in-Err-write.ensures.cause.failed

pub returns : goal.returns
returns g c =
    let seen = g.V.Volume.seen in
    let on = c.requires.is_on in
    page_written c.args.copy c.args.self.now c.spell-position.new.self c.force_to.new.self
    (seen c.args.volume.now) (seen c.force_to.new.volume) c.spell-position.ensures.same
    c.force_to.ensures.forces c.requires.counted
    on.epoch c.args.marks.now.items c.set_mark.new.marks.items on.is_on c.args.number
    c.spell-position.new.into (seen c.write.new.self) c.write.result
    c.requires.dirty c.set_mark.ensures.here c.set_mark.ensures.others
    (subst (λ (n : ℕ). n ≤ c.force_to.new.self.log.forced) c.spell-position.ensures.position
    c.in-Ok.ensures.ok) c.spell-position.ensures.spells
    (subst
    (λ (s : Set). MadeWrite c.write.result (g.V.Volume.seen c.force_to.new.volume).told s
    c.args.number
    c.spell-position.new.into (g.V.Volume.seen c.write.new.self).told) c.set.ensures.is
    c.write.ensures.made)
    c.write.ensures.capacities c.write.ensures.cause c.set_mark-2.new.marks.items c.in-Ok-write.is
    (c.set_mark-2.ensures.here
    ∙ ap (λ (n : ℕ). Some (record { 0 = n })) c.spell-position.ensures.position)
    c.set_mark-2.ensures.others
