use Rattle.std.proofs.Common.{◌≡◌, ◌≤◌, ◌+◌, drop, take}
use Rattle.rg_image.specs.Pack.{fitting, log_bytes}
use Rattle.rg_log.proofs.page.count_fitting.Given as goal

abbrev pub invariant-loop-count : goal.invariant-loop-count
invariant-loop-count l = record {
  room : l.used ≤ 4072;
  count : l.count + fitting l.used (drop l.count l.records) ≡ fitting 0 l.records;
  bytes : l.used
      + log_bytes (take (fitting l.used (drop l.count l.records)) (drop l.count l.records))
      ≡ log_bytes (take (fitting 0 l.records) l.records);
}
