use Rattle.std.proofs.Common.{◌≤◌, List, Option, length, subst}
use Rattle.rg_base.specs.declared.position.Position.{Position}
use Rattle.rg_log.specs.Kept.{Listed}
use Rattle.rg_engine.specs.Engine.{seen_in}
use Rattle.rg_engine.specs.OnVolume.{AreClean}
use Rattle.rg_engine.proofs.Flushing.{flush_clean, flush_from, flush_refused}
use Rattle.rg_engine.proofs.engine.Engine.flush.Goals as goal

pub returns-in_default : goal.returns-in_default
returns-in_default g c =
    let on = c.requires.is_on in
    flush_clean on.epoch c.args.copy c.args.self.now c.next_dirty.new.self c.args.marks.now.items
    (g.V.Volume.seen c.args.volume.now)
    c.next_dirty.ensures.same
    (subst (λ (l : Listed). l.forced ≤ length l.records) c.next_dirty.ensures.same.log
    c.forced.ensures.within) on.is_on
    (subst (λ (ms : List (Option Position)). AreClean (seen_in c.args.self.now).pages ms)
    c.as_slice.ensures.value c.in_default.ensures.next)

pub returns-in-Err : goal.returns-in-Err
returns-in-Err g c =
    let on = c.requires.is_on in
    flush_refused on.epoch c.args.copy c.args.self.now c.next_dirty.new.self c.args.marks.now.items
    c.make_room.new.marks.items
    (g.V.Volume.seen c.args.volume.now)
    c.next_dirty.ensures.same on.is_on
    c.make_room.ensures.same

pub returns-in-Ok : goal.returns-in-Ok
returns-in-Ok g c =
    flush_from c.args.copy c.args.self.now c.next_dirty.new.self c.write_page.new.self
    c.args.marks.now.items c.make_room.new.marks.items c.write_page.new.marks.items
    (g.V.Volume.seen c.args.volume.now) (g.V.Volume.seen c.write_page.new.volume)
    c.write_page.result c.next_dirty.ensures.same c.make_room.ensures.same c.write_page.ensures
