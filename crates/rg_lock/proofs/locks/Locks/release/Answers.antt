use Rattle.std.proofs.Common.{◌≡◌, true, false, not, Some, sym, ◌∙◌, ap, subst}
use Rattle.rg_model.specs.Held.{is_others}
use Rattle.rg_lock.specs.Owned.{IsExact}
use Rattle.rg_lock.proofs.Exact.{was_own, own_kept, exact-removed, once-removed}
use Rattle.rg_lock.proofs.locks.Locks.release.Goals as goal
use Rattle.rg_lock.proofs.locks.Locks.release.Goals.{In_ok-kept, After-from_residual-in_err-kept}

-- a key of the session's list is locked by it
mine : (c : In_ok-kept) → not (is_others c.args.session (Some c.in_ok-kept.kept)) ≡ true
mine c =
    ap (λ found. not (is_others c.args.session found)) c.in_ok-kept.ensures.before
    ∙ was_own c.self.inside.locks c.self.inside.owned.items c.pop_key.new.lists.items c.args.session
    c.in_ok-key.key c.in_ok-key.ensures.keys c.self.invariant.exact c.self.invariant.once

pub invariant_of-self-2 : goal.invariant_of-self-2
invariant_of-self-2 c =
    let locks = c.self.inside.locks in
    let old = c.self.inside.owned.items in
    let new = c.pop_key.new.lists.items in
    record {
      len = c.in_ok-key.ensures.len;
      exact = subst (λ left. IsExact left new) (sym c.in_ok-kept.ensures.removed)
          (exact-removed locks old new c.args.session c.in_ok-key.key c.in_ok-key.ensures.keys
          c.self.invariant.exact c.self.invariant.once);
      once = once-removed locks old new c.args.session c.in_ok-key.key c.in_ok-key.ensures.keys
          c.self.invariant.exact c.self.invariant.once;
    }

pub returns : goal.returns
returns c =
    rw (← c.self.view_is) (
      sym c.in_ok-kept.ensures.before
          ∙ ap Some (own_kept c.args.session c.in_ok-kept.kept (mine c)),
      c.in_ok-kept.ensures.removed,
    )

no_lock : (c : After-from_residual-in_err-kept) → ⊥
no_lock c =
    let listed =
    was_own c.self.inside.locks c.self.inside.owned.items c.pop_key.new.lists.items c.args.session
    c.in_ok-key.key c.in_ok-key.ensures.keys c.self.invariant.exact c.self.invariant.once in
    let unlocked : false ≡ true =
    ap (λ found. not (is_others c.args.session found)) c.in_err-kept.ensures.before ∙ listed in
    absurd (cc (unlocked))

pub returns-in_err-kept : goal.returns-in_err-kept
returns-in_err-kept c = absurd (no_lock c)

pub invariant_of-self-in_err-kept : goal.invariant_of-self-in_err-kept
invariant_of-self-in_err-kept c = absurd (no_lock c)
