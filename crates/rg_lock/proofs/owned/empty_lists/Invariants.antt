use Rattle.std.proofs.Common.{◌≡◌, ℕ, [], vec_len}
use Rattle.rg_lock.specs.Owned.{keys_in}
use Rattle.rg_lock.proofs.owned.empty_lists.Given as goal

abbrev pub invariant-loop-number : goal.invariant-loop-number
invariant-loop-number l = record {
  len : vec_len l.lists ≡ l._number;
  none : (n : ℕ) → keys_in l.lists.items n ≡ [];
}
