use Rattle.std.proofs.Common.{◌≡◌, ◌≤◌, ◌+◌}
use Rattle.std.specs.Prelude.{vec_capacity, vec_len}
use Rattle.rg_translate.specs.Backlog.{SameItems, to_make}
use Rattle.rg_translate.proofs.batch.take_batch.Given as goal

abbrev pub invariant-loop-taken : goal.invariant-loop-taken
invariant-loop-taken l = record {
  same : SameItems l.fn.inlet l.inlet;
  taken : l.inlet.taken ≡ l.fn.inlet.taken + l.taken;
  batch : l.batch.items ≡ to_make l.taken l.fn.inlet;
  len : vec_len l.batch ≤ l.taken;
  room : l.count ≤ vec_capacity l.batch;
}
