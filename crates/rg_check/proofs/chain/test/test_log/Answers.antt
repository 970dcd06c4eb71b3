use Rattle.std.proofs.Common.{◌≤◌, ◌<◌, ◌+◌, ◌*◌, ◌^◌, List, length, sym, ◌∙◌, ap, subst, arith}
use Rattle.rg_record.specs.declared.record.Record.{Record}
use Rattle.rg_image.specs.Kept.{AreEntries}
use Rattle.rg_image.specs.Pack.{end_of, start}
use Rattle.rg_image.proofs.Decode.{contains_take}
use Rattle.rg_image.proofs.Pack.{front_page}
use Rattle.rg_check.specs.Chain.Tested.{IsWalk}
use Rattle.rg_check.specs.declared.chain.test.Walk.TheVariants.{Whole, Broken}
use Rattle.rg_check.proofs.ChainLemmas.Walks.{few_records, pages_hold, breaks}
use Rattle.rg_check.proofs.chain.test.test_log.Goals as goal

pub walk_over-requires-clause-few : goal.walk_over-requires-clause-few
walk_over-requires-clause-few g c =
    omega (arith, few_records c.args.records.now c.requires.entries c.requires.last)

pub last_page-page-requires-clause-entries : goal.last_page-page-requires-clause-entries
last_page-page-requires-clause-entries g c =
    subst AreEntries (sym c.split_at.ensures.front)
    (λ entry is. c.requires.entries entry
    (contains_take (c.in-Broken.at + 1) c.args.records.now entry is))

pub last_page-page-requires-clause-few : goal.last_page-page-requires-clause-few
last_page-page-requires-clause-few g c =
    omega (
      arith,
      ap (λ (l : List Record). (end_of start l).page) c.split_at.ensures.front,
      front_page (c.in-Broken.at + 1) c.args.records.now,
      c.requires.last,
    )

pub all_bytes-requires-clause-few : goal.all_bytes-requires-clause-few
all_bytes-requires-clause-few g c =
    omega (arith, pages_hold c.args.records.now c.requires.entries, c.requires.last)

pub overflow_add-used : goal.overflow_add-used
overflow_add-used g c =
    let rs = c.args.records.now in
    let whole : IsWalk (g.V.Volume.seen c.args.volume.now).capacities rs (Whole c.in-Whole.chain) =
    subst (IsWalk (g.V.Volume.seen c.args.volume.now).capacities rs) c.in-Whole.is
    c.in_ok-at.ensures in
    let few : length rs ≤ 2036 * 65536 = few_records rs c.requires.entries c.requires.last in
    let used : c.from-used.result < 2 ^ 32 =
    omega (arith, c.from-used.ensures, c.all_bytes.type_inv) in
    omega (arith, few, used, whole.1.units.high, c.owed.ensures.is)

pub returns-in-Broken : goal.returns-in-Broken
returns-in-Broken g c =
    let rs = c.args.records.now in
    let capacities = (g.V.Volume.seen c.args.volume.now).capacities in
    let found : IsWalk capacities rs (Broken c.in-Broken.at) =
    subst (IsWalk capacities rs) c.in-Broken.is c.in_ok-at.ensures in
    breaks capacities rs c.in-Broken.at c.last_page-page.result found.0 found.1 found.2
    (c.last_page-page.ensures
    ∙ ap (λ (l : List Record). (end_of start l).page) c.split_at.ensures.front)
