use Rattle.std.proofs.Common.{List, sym, ap, subst, arith}
use Rattle.rg_image.specs.Kept.{AreEntries}
use Rattle.rg_image.specs.Pack.{end_of, start}
use Rattle.rg_image.proofs.Decode.{contains_take}
use Rattle.rg_image.proofs.Pack.{front_page}
use Rattle.rg_record.specs.declared.record.Record.{Record}
use Rattle.rg_restart.proofs.find.page_of.Goals as goal

pub last_page-requires-clause-entries : goal.last_page-requires-clause-entries
last_page-requires-clause-entries c =
    subst AreEntries (sym c.split_at.ensures.front)
    (λ entry is. subst AreEntries (sym c.records-records.ensures.records)
    c.records-records.ensures.entries entry
    (contains_take c.min.result c.records-records.result.now entry is))

pub last_page-requires-clause-few : goal.last_page-requires-clause-few
last_page-requires-clause-few c =
    omega (
      arith,
      ap (λ (l : List Record). (end_of start l).page) c.split_at.ensures.front,
      front_page c.min.result c.records-records.result.now,
      c.records-records.ensures.last,
      ap (λ (l : List Record). (end_of start l).page) c.records-records.ensures.records,
    )
