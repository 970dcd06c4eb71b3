use Rattle.std.proofs.Common.{◌≡◌, ◌≤◌, ◌+◌, ◌∙◌, true, false, refl, arith, length}
use Rattle.rg_space.specs.Space.{frames_of, summaries_of}
use Rattle.rg_space.proofs.Took.{keeps_more}
use Rattle.rg_undo.proofs.UnitLoop.{goes_step, goes_last, fewer, some_left}
use Rattle.rg_undo.proofs.unit.undo_unit.Goals as goal

pub loop-back-preserved : goal.loop-back-preserved
loop-back-preserved g c =
    let a = g.F.Frames.seen (frames_of c.args.space.now) in
    let b = g.F.Frames.seen (frames_of c.loop-back.space) in
    let z = g.F.Frames.seen (frames_of c.undo_latest.new.space) in
    let i = c.loop-back.invariant in
    let h = c.undo_latest.ensures in
    let k = c.in_ok-undo_latest.ensures in
    let some : 1 ≤ length c.loop-back.work =
    some_left c.loop-back.work (λ e. let h : false ≡ true = c.loop-back-test.ensures.1 e in cc) in
    let ahead : c.loop-back.at ≤ b.forced =
    omega (arith, i.count, some, i.forced, c.requires.forced) in
    let less : length c.undo_latest.new.work + 1 ≡ length c.loop-back.work =
    fewer c.loop-back.work c.undo_latest.new.work some h.left in
    record {
      step = h.step;
      capacity = h.capacity ∙ i.capacity;
      room = h.room;
      free = omega (arith, i.free, k.more, h.free, less);
      count = omega (arith, i.count, less);
      keeps = keeps_more a b z i.keeps h.keeps;
      forced = h.forced ∙ i.forced;
      idle = omega (arith, i.idle, h.idle ahead);
      spare = omega (
        arith,
        h.spare,
        i.spare,
        g.met.F.Frames.spare_idle (frames_of c.loop-back.space),
        h.idle ahead,
      );
      goes = λ sure can. goes_step a b z (summaries_of c.loop-back.space)
          (summaries_of c.undo_latest.new.space) c.args.changes.items c.loop-back.work
          c.undo_latest.new.work c.loop-back.records.items c.undo_latest.new.records.items
          c.args.position.0 c.args.back.0 c.loop-back.at c.loop-back.back.0
          some h.left (k.undo sure) (k.undone sure) i.keeps.copy (i.goes (h.keeps.sure sure) can);
    }

pub returns-clause-undone : goal.returns-clause-undone
returns-clause-undone g c = λ sure can.
    goes_last (g.F.Frames.seen (frames_of c.args.space.now))
    (g.F.Frames.seen (frames_of c.loop-back.space)) (summaries_of c.args.space.now)
    (summaries_of c.loop-back.space) c.args.changes.items c.loop-back.work c.loop-back.records.items
    c.args.position.0 c.args.back.0 c.loop-back.at c.loop-back.back.0
    can (c.loop-back-test.ensures.0 refl) (c.loop-back.invariant.goes sure can)
