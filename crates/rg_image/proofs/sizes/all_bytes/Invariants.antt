use Rattle.std.proofs.Common.{◌≡◌, ◌+◌, drop}
use Rattle.rg_image.specs.Pack.{log_bytes}
use Rattle.rg_image.proofs.sizes.all_bytes.Given as goal

abbrev pub invariant-loop-entry : goal.invariant-loop-entry
invariant-loop-entry l = l.bytes + log_bytes (drop l.entry-index l.records) ≡ log_bytes l.records
