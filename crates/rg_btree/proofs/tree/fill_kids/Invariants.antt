use Rattle.std.proofs.Common.{◌≡◌, ◌≤◌, ◌+◌, ◌-◌}
use Rattle.rg_btree.proofs.tree.fill_kids.Given as goal

abbrev pub invariant-loop-all : goal.invariant-loop-all
invariant-loop-all l = record {
  sync : l.all + l.fn.pool.kids ≡ l.fn.all + l.pool.kids;
  not_fewer : l.fn.all ≤ l.all;
  within : l.all - l.fn.all ≤ l.wanted - l.fn.all;
  keys : l.pool.keys ≡ l.fn.pool.keys;
  key_room : l.pool.key_room ≡ l.fn.pool.key_room;
  kid_room : l.fn.pool.kid_room ≤ l.pool.kid_room;
}

abbrev pub decreases-loop-all : goal.decreases-loop-all
decreases-loop-all l = l.wanted - l.all
