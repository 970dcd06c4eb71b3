use Rattle.std.proofs.Common.{drop, ap, arith}
use Rattle.rg_image.specs.Pack.{Spot}
use Rattle.rg_image.proofs.Entries.{item_is}
use Rattle.rg_image.proofs.Pack.{end_page}
use Rattle.rg_image.proofs.sizes.last_page.Goals as goal

pub size_of-size-requires : goal.size_of-size-requires
size_of-size-requires c =
    item_is c.args.records.now c.loop-entry.entry-index _ c.requires.entries c.loop-entry-test.true
    c.entry-item.is

pub overflow_add-page : goal.overflow_add-page
overflow_add-page c =
    let at : Spot = record { page = c.loop-entry.page; used = c.loop-entry.used } in
    omega (
      arith,
      end_page at (drop c.loop-entry.entry-index c.args.records.now),
      ap (λ (s : Spot). s.page) c.loop-entry.invariant.spot,
      c.requires.few,
    )
