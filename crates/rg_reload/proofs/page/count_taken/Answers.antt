use Rattle.std.proofs.Common.{add-one, arith}
use Rattle.rg_reload.proofs.Taken.{taken-more, used-take}
use Rattle.rg_reload.proofs.page.count_taken.Goals as goal

pub loop-count-preserved : goal.loop-count-preserved
loop-count-preserved c =
    let row = c.index-rows-count.result in
    let area = c.area_of-area.ensures.area in
    let i = c.loop-count.invariant in
    let more = taken-more c.args.options.now c.loop-count.free c.loop-count.count c.args.rows.now
    row c.loop-count-test.true
    (omega (arith, area, c.free_part-kept.ensures.part, c.if-kept-area.false)) in
    let slots = used-take c.loop-count.count c.args.rows.now row c.loop-count-test.true in
    record {
      low = omega arith;
      high = omega arith;
      free = omega arith;
      count = rw (add-one, area) (omega (arith, more, i.count));
      fits = rw (add-one) (omega (arith, slots, i.fits, area, c.if-kept-area.false));
    }
