use Rattle.std.proofs.Common.{◌≡◌, ◌≤◌, ◌+◌, ◌++◌, drop, vec_len, vec_capacity}
use Rattle.rg_reload.specs.Moved.{moved_on, pairs_of}
use Rattle.rg_reload.proofs.page.add_pairs.Given as goal

abbrev pub invariant-loop-homed : goal.invariant-loop-homed
invariant-loop-homed l = record {
  slot : l.slot ≡ l.homed-index;
  count : vec_len l.pairs ≡ vec_len l.fn.pairs + l.homed-index;
  capacity : vec_capacity l.fn.pairs ≤ vec_capacity l.pairs;
  pairs : l.pairs.items ++ pairs_of (moved_on l.page l.homed-index (drop l.homed-index l.rows))
      ≡ l.fn.pairs.items ++ pairs_of (moved_on l.page 0 l.rows);
}
