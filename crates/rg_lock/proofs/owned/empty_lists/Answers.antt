use Rattle.std.proofs.Common.{arith}
use Rattle.rg_lock.proofs.KeyLists.{keys_in-push}
use Rattle.rg_lock.proofs.owned.empty_lists.Goals as goal

pub loop-number-preserved : goal.loop-number-preserved
loop-number-preserved c = record {
  len = omega (arith, c.in_ok-push.ensures.len, c.loop-number.invariant.len);
  none = rw c.in_ok-push.ensures.items
      (keys_in-push c.loop-number.lists.items _ c.loop-number.invariant.none c.new.ensures.items);
}
