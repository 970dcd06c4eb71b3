use Rattle.std.proofs.Common.{◌≡◌, ◌≤◌, drop}
use Rattle.rg_image.specs.Pack.{end_of, start}
use Rattle.rg_image.proofs.sizes.last_page.Given as goal

abbrev pub invariant-loop-entry : goal.invariant-loop-entry
invariant-loop-entry l = record {
  room : l.used ≤ 4072;
  spot : end_of (record { page = l.page; used = l.used }) (drop l.entry-index l.records)
      ≡ end_of start l.records;
}
