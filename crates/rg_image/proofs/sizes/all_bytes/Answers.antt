use Rattle.rg_image.proofs.Entries.{item_is}
use Rattle.rg_image.proofs.sizes.all_bytes.Goals as goal

pub size_of-bytes-requires : goal.size_of-bytes-requires
size_of-bytes-requires c =
    item_is c.args.records.now c.loop-entry.entry-index _ c.requires.entries c.loop-entry-test.true
    c.entry-item.is
