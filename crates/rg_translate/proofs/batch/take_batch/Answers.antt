use Rattle.std.proofs.Common.{◌∙◌, arith}
use Rattle.rg_translate.proofs.Taking.{grown}
use Rattle.rg_translate.proofs.batch.take_batch.Goals as goal

pub loop-taken-preserved : goal.loop-taken-preserved
loop-taken-preserved c =
    let i = c.loop-taken.invariant in
    let e = c.take_one.ensures in record {
      same = record {
        ring = e.same.ring ∙ i.same.ring;
        items = e.same.items ∙ i.same.items;
        known = e.same.known ∙ i.same.known;
      };
      taken = omega (arith, e.taken, i.taken);
      batch = grown c.loop-taken.taken c.args.inlet.now c.loop-taken.inlet c.loop-taken.batch.items
          c.take_one.new.batch.items i.same.items i.taken i.batch e.added;
      len = omega (arith, e.len, i.len);
      room = omega (arith, e.capacity, i.room);
    }
