use Rattle.std.proofs.Common.{sym, subst}
use Rattle.rg_lock.specs.Owned.{IsExact}
use Rattle.rg_lock.proofs.Exact.{exact-empty, once-empty}
use Rattle.rg_lock.proofs.locks.Locks.new.Goals as goal

pub invariant_of-result : goal.invariant_of-result
invariant_of-result c =
    let lists = c.in_ok-empty_lists.field-0 in
    record {
      len = c.in_ok-empty_lists.ensures.len;
      exact = subst (λ locks. IsExact locks lists.items) (sym c.new.ensures)
          (exact-empty lists.items c.in_ok-empty_lists.ensures.none);
      once = once-empty lists.items c.in_ok-empty_lists.ensures.none;
    }
