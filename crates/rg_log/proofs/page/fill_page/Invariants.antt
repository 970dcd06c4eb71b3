use Rattle.std.proofs.Common.{◌≡◌, ◌+◌, ◌++◌, length, drop}
use Rattle.std.specs.List.{flat_map}
use Rattle.rg_image.specs.Pack.{log_bytes}
use Rattle.rg_image.specs.Page.{spelt}
use Rattle.rg_log.proofs.page.fill_page.Given as goal

abbrev pub invariant-loop-entry : goal.invariant-loop-entry
invariant-loop-entry l = record {
  bytes : l.out ++ flat_map spelt (drop l.entry-index l.records)
      ≡ l.initial.out ++ flat_map spelt l.records;
  len : length l.out + log_bytes (drop l.entry-index l.records) ≡ 24 + log_bytes l.records;
}
