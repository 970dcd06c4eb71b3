use Rattle.rg_image.proofs.Entries.{item_is}
use Rattle.rg_log.proofs.page.count_fitting.Goals as goal

pub size_of-size-requires : goal.size_of-size-requires
size_of-size-requires c =
    item_is c.args.records.now c.loop-count.count _ c.requires c.loop-count-test.true
    c.index-records-count.is
