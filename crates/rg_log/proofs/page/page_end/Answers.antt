use Rattle.std.proofs.Common.{drop, ap, sym, subst, arith, length-drop}
use Rattle.rg_image.specs.Kept.{AreEntries}
use Rattle.rg_image.specs.Pack.{fitting}
use Rattle.rg_image.proofs.Pack.{fitting_le}
use Rattle.rg_log.proofs.Fill.{back_entries}
use Rattle.rg_log.proofs.page.page_end.Goals as goal

pub count_fitting-count-requires : goal.count_fitting-count-requires
count_fitting-count-requires c =
    subst AreEntries (sym c.split_at.ensures.back)
    (back_entries c.args.records.now c.args.from c.requires.entries)

pub overflow_add-result : goal.overflow_add-result
overflow_add-result c =
    omega (
      arith,
      c.count_fitting-count.ensures.count,
      ap (fitting 0) c.split_at.ensures.back,
      fitting_le 0 (drop c.args.from c.args.records.now),
      length-drop c.args.from c.args.records.now,
      c.requires.within,
    )

pub returns-clause-end : goal.returns-clause-end
returns-clause-end c =
    omega (arith, c.count_fitting-count.ensures.count, ap (fitting 0) c.split_at.ensures.back)

pub returns-clause-within : goal.returns-clause-within
returns-clause-within c =
    omega (
      arith,
      returns-clause-end c,
      fitting_le 0 (drop c.args.from c.args.records.now),
      length-drop c.args.from c.args.records.now,
      c.requires.within,
    )
