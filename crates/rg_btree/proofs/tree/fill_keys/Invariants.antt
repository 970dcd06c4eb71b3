use Rattle.std.proofs.Common.{◌≡◌, ◌≤◌, ◌+◌, ◌-◌}
use Rattle.rg_btree.proofs.tree.fill_keys.Given as goal

abbrev pub invariant-loop-all : goal.invariant-loop-all
invariant-loop-all l = record {
  sync : l.all + l.fn.pool.keys ≡ l.fn.all + l.pool.keys;
  not_fewer : l.fn.all ≤ l.all;
  within : l.all - l.fn.all ≤ l.wanted - l.fn.all;
  kids : l.pool.kids ≡ l.fn.pool.kids;
  key_room : l.fn.pool.key_room ≤ l.pool.key_room;
  kid_room : l.pool.kid_room ≡ l.fn.pool.kid_room;
}

abbrev pub decreases-loop-all : goal.decreases-loop-all
decreases-loop-all l = l.wanted - l.all
