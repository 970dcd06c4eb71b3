use Rattle.std.proofs.Common.{◌≡◌, ◌++◌, List, ℕ, length, get_or, arith, ◌∙◌, ap}
use Rattle.rg_image.specs.Pack.{log_bytes}
use Rattle.rg_image.specs.Page.{page_head}
use Rattle.rg_image.proofs.Room.{fitting_room}
use Rattle.rg_image.proofs.Entries.{item_is}
use Rattle.rg_log.proofs.Fill.{page_is, log_bytes_take}
use Rattle.rg_log.proofs.page.fill_page.Goals as goal

pub overflow_cast-count : goal.overflow_cast-count
overflow_cast-count c = omega
    (arith, fitting_room 0 c.args.records.now (omega arith), c.count_fitting-count.ensures.count)

pub add_entry-requires-clause-entry : goal.add_entry-requires-clause-entry
add_entry-requires-clause-entry c =
    item_is c.args.records.now c.loop-entry.entry-index _ c.requires.entries c.loop-entry-test.true
    c.entry-item.is

pub returns : goal.returns
returns c =
    let count : c.count_fitting-count.result.0 ≡ length c.args.records.now =
    c.count_fitting-count.ensures.count ∙ c.requires.fits in
    let used : c.count_fitting-count.result.1 ≡ log_bytes c.args.records.now =
    c.count_fitting-count.ensures.used ∙ log_bytes_take c.args.records.now c.requires.fits in
    let head =
    page_head c.args.page (get_or c.args.records.now 0 c.index-records-0.result).position.0
    c.count_fitting-count.result.0 c.count_fitting-count.result.1 in
    c.into_page.ensures
    ∙ page_is c.args.page _ _ c.args.records.now c.index-records-0.result c.loop-entry.out
    c.add_head.new.out c.loop-entry.entry-index
    c.requires.some count used c.loop-entry-test.false
    (c.add_head.ensures.bytes ∙ ap (λ (xs : List ℕ). xs ++ head) c.new-out.ensures)
    c.loop-entry.invariant.bytes
