use Rattle.std.proofs.Common.{◌≡◌, ◌≤◌, ◌+◌, ◌++◌, length, reverse, vec_capacity}
use Rattle.rg_btree.proofs.room.move_behind.Given as goal

-- what was moved is behind what is left, turned round
abbrev pub invariant-loop-from : goal.invariant-loop-from
invariant-loop-from g l = record {
  all : l.fn.from.items ≡ l.from.items ++ reverse l.to.items;
  left : l.at ≤ length l.from.items;
  room : length l.from.items + length l.to.items ≤ l.at + vec_capacity l.to;
  from_room : vec_capacity l.from ≡ vec_capacity l.fn.from;
  to_room : vec_capacity l.fn.to ≤ vec_capacity l.to;
}

abbrev pub decreases-loop-from : goal.decreases-loop-from
decreases-loop-from g l = length l.from.items
