use Rattle.rg_translate.proofs.Replaying.{copied_rows-take}
use Rattle.rg_translate.proofs.load.copied.rows_of.Goals as goal

pub loop-item-preserved : goal.loop-item-preserved
loop-item-preserved c =
    copied_rows-take c.args.copies.now c.loop-item.item-index c.item-item.result
    c.loop-item.all.items c.add_copy.new.all.items c.loop-item-test.true c.item-item.is
    c.loop-item.invariant c.in_ok-add_copy.ensures
