use Rattle.std.proofs.Common.{◌≡◌, ◌≤◌, ◌+◌, ◌∙◌, ◌∷◌, List, sym, ap, subst, arith, length}
use Rattle.rg_record.specs.declared.record.Record.{Record}
use Rattle.rg_space.specs.Space.{frames_of, summaries_of}
use Rattle.rg_space.proofs.Took.{keeps_more}
use Rattle.rg_check.specs.PageTests.Turns.{TurnIs}
use Rattle.rg_check.proofs.PageTestsLemmas.Turning.{so_far_more, so_far_proper, taken}
use Rattle.rg_check.proofs.page_tests.turns.undo_tested.Goals as goal

pub loop-entry-preserved : goal.loop-entry-preserved
loop-entry-preserved g c =
    let a = g.F.Frames.seen (frames_of c.args.space.now) in
    let b = g.F.Frames.seen (frames_of c.loop-entry.space) in
    let z = g.F.Frames.seen (frames_of c.take_turn.new.space) in
    let bi = summaries_of c.loop-entry.space in
    let zi = summaries_of c.take_turn.new.space in
    let i = c.loop-entry.invariant in
    let h = c.take_turn.ensures in
    let k = c.in_ok-place.ensures in
    let entry = c.in-Some.entry in
    let at = c.loop-entry.at in
    let before = c.loop-entry.back.0 in
    let undo = c.in-Undone.undo in
    let work_is : c.loop-entry.waiting ≡ entry ∷ c.take.new.self = taken c.loop-entry.waiting
    c.take.new.self entry (sym c.in-Some.is ∙ c.take.ensures.first) c.take.ensures.left in
    let less : length c.loop-entry.waiting ≡ length c.take.new.self + 1 =
    omega (arith, ap (λ (es : List Record). length es) work_is) in
    let ahead : at ≤ b.forced = omega (arith, i.count, less, i.forced, c.requires.forced) in
    record {
      step = h.step;
      capacity = h.capacity ∙ i.capacity;
      count = omega (arith, i.count, less);
      keeps = keeps_more a b z i.keeps h.keeps;
      forced = h.forced ∙ i.forced;
      idle = omega (arith, i.idle, h.idle ahead);
      spare = omega (
        arith,
        k.spare,
        i.spare,
        g.met.F.Frames.spare_idle (frames_of c.loop-entry.space),
        h.idle ahead,
      );
      goes = λ sure proper.
          let s = i.goes (h.keeps.sure sure) proper in
          so_far_more c.args.position.0 c.args.back.0 a b bi c.args.changes.items
          c.loop-entry.waiting c.take.new.self c.loop-entry.undos.items entry at before work_is s z
          zi undo c.push.new.self.items i.keeps.copy
          (subst (TurnIs at before b z zi entry) c.in-Undone.is
          (k.turn sure
          (so_far_proper c.args.position.0 c.args.back.0 a b bi c.args.changes.items
          c.loop-entry.waiting c.take.new.self c.loop-entry.undos.items entry at before work_is s)))
          c.in-Ok.ensures.items;
    }
