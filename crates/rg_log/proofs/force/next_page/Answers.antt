use Rattle.std.proofs.Common.{◌≡◌, ◌≤◌, ◌<◌, ◌+◌, ℕ, List, length, drop, subst, arith}
use Rattle.rg_record.specs.declared.record.Record.{Record}
use Rattle.rg_image.specs.Kept.{IsPageStart, AreEntries}
use Rattle.rg_image.specs.Pack.{fitting, end_of, start}
use Rattle.rg_image.proofs.Entries.{all_fit}
use Rattle.rg_image.proofs.Start.{next_start, some, page_high}
use Rattle.rg_log.proofs.force.next_page.Goals as goal

-- the next page, where it begins at the first unforced record
next : (rs : List Record) (from page forced : ℕ) → IsPageStart rs from page → AreEntries rs
    → from ≤ forced → from + fitting 0 (drop from rs) ≡ forced → forced < length rs
    → IsPageStart rs forced (page + 1)
next rs from page forced is_start entries low end more =
    subst (λ k. IsPageStart rs k (page + 1)) end
    (next_start rs from page is_start (all_fit rs entries) (omega (arith, low, more))
    (omega (arith, end, more)))

pub overflow_add-result : goal.overflow_add-result
overflow_add-result c =
    let end : c.args.from + fitting 0 (drop c.args.from c.args.records.now) ≡ c.args.forced =
    omega (arith, c.page_end.ensures.end) in
    let begins = next c.args.records.now c.args.from c.args.page c.args.forced c.requires.is_start
    c.requires.entries c.requires.low end c.requires.more in
    let high : c.args.page + 1 ≤ (end_of start c.args.records.now).page =
    page_high c.args.records.now c.args.forced (c.args.page + 1) begins c.requires.more in
    omega (arith, high, c.requires.last)

pub returns-then-page_end-forced-clause-is_start : goal.returns-then-page_end-forced-clause-is_start
returns-then-page_end-forced-clause-is_start c =
    next c.args.records.now c.args.from c.args.page c.args.forced c.requires.is_start
    c.requires.entries c.requires.low
    (omega (arith, c.page_end.ensures.end)) c.requires.more

pub returns-then-page_end-forced-clause-high : goal.returns-then-page_end-forced-clause-high
returns-then-page_end-forced-clause-high c =
    let begins = next c.args.records.now c.args.from c.args.page c.args.forced c.requires.is_start
    c.requires.entries c.requires.low
    (omega (arith, c.page_end.ensures.end)) c.requires.more in
    let one = some c.args.records.now c.args.forced (c.args.page + 1) begins
    (all_fit c.args.records.now c.requires.entries) c.requires.more in
    omega (arith, one)
