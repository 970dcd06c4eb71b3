use Rattle.std.proofs.Common.{◌≡◌, sym, subst, ap, ◌∙◌}
use Rattle.std.specs.FinMap as map
use Rattle.std.specs.Option.{is_some}
use Rattle.rg_base.specs.declared.lock.Lock.{Lock}
use Rattle.rg_model.proofs.Changed.{remove-insert}
use Rattle.rg_lock.specs.Owned.{IsExact}
use Rattle.rg_lock.proofs.Exact.{exact-same, once-same, exact-inserted, once-inserted}
use Rattle.rg_lock.proofs.locks.Locks.take.Goals as goal
use Rattle.rg_lock.proofs.locks.Locks.take.Goals.{Joined-remove}

-- the lock that was put in is gone
undone : (c : Joined-remove) → c.remove.new.self ≡ c.self.inside.locks
undone c =
    let kept : Lock = record { owner = c.args.session; row = c.args.committed } in
    c.remove.ensures.removed
    ∙ ap (λ locks. map.remove locks c.args.key) c.in_default-insert.ensures.ok
    ∙ remove-insert c.self.inside.locks c.args.key kept (ap is_some (sym c.in_default.ensures))

pub invariant_of-self-in-Err-push_key : goal.invariant_of-self-in-Err-push_key
invariant_of-self-in-Err-push_key c =
    let old = c.self.inside.owned.items in
    let new = c.push_key.new.lists.items in
    record {
      len = c.in-Err-push_key.ensures.len;
      exact = subst (λ locks. IsExact locks new) (sym (undone c))
          (exact-same c.self.inside.locks old new c.in-Err-push_key.ensures.err
          c.self.invariant.exact);
      once = once-same old new c.in-Err-push_key.ensures.err c.self.invariant.once;
    }

pub returns-in-Err-push_key-clause-err : goal.returns-in-Err-push_key-clause-err
returns-in-Err-push_key-clause-err c = undone c ∙ c.self.view_is

pub invariant_of-self-in_default-push_key : goal.invariant_of-self-in_default-push_key
invariant_of-self-in_default-push_key c =
    let kept : Lock = record { owner = c.args.session; row = c.args.committed } in
    let old = c.self.inside.owned.items in
    let new = c.push_key.new.lists.items in
    let locks = c.self.inside.locks in
    record {
      len = c.in_default-push_key.ensures.len;
      exact = subst (λ locks. IsExact locks new) (sym c.in_default-insert.ensures.ok)
          (exact-inserted locks old new kept c.args.key c.in_default-push_key.ensures.ok
          (sym c.in_default.ensures) c.self.invariant.exact);
      once = once-inserted locks old new c.args.session c.args.key c.in_default-push_key.ensures.ok
          (sym c.in_default.ensures) c.self.invariant.exact c.self.invariant.once;
    }
