use Rattle.std.proofs.Common.{◌∙◌, ap, arith, length, sym}
use Rattle.rg_feed.proofs.Counting.{grew_more, joined_length}
use Rattle.rg_feed.proofs.hand_over.hand_over.Goals as goal

pub loop-passed-preserved : goal.loop-passed-preserved
loop-passed-preserved c =
    let e = c.pass_one.ensures in
    let i = c.loop-passed.invariant in record {
      grew = grew_more c.args.inlet.now c.loop-passed.inlet c.pass_one.new.inlet i.grew e.grew;
      sent = record { ring = e.sent.ring ∙ i.sent.ring; items = e.sent.items ∙ i.sent.items };
      joined = e.joined;
      ring = e.sent.ring ∙ i.ring ∙ sym e.grew.ring;
      left = omega (
        arith,
        joined_length c.loop-passed.inlet c.loop-passed.outlet i.joined,
        joined_length c.pass_one.new.inlet c.pass_one.new.outlet e.joined,
        ap length e.sent.items,
        e.one,
        i.left,
      );
      room = omega (arith, e.room, i.room);
      spare = omega (arith, e.spare, i.spare);
    }
