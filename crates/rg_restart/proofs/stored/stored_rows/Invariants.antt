use Rattle.std.proofs.Common.{◌≡◌, ◌≤◌, ◌-◌, ◌*◌, ℕ, drop, length}
use Rattle.std.specs.FinMap as map
use Rattle.rg_image.specs.Meaning.{last_made, stored}
use Rattle.rg_restart.specs.Stored.{made_over}
use Rattle.rg_restart.proofs.stored.stored_rows.Given as goal

abbrev pub decreases-loop-at : goal.decreases-loop-at
decreases-loop-at l = length l.records - l.at

abbrev pub invariant-loop-at : goal.invariant-loop-at
invariant-loop-at l = record {
  rows : (key : ℕ)
      → made_over (last_made l.records (drop l.at l.records) key) (map.get l.table key)
      ≡ stored l.records key;
  few : map.len l.table ≤ 2 * l.at;
  low : l.at ≤ length l.records;
}
