use Rattle.std.proofs.Common.{◌≡◌, ◌==◌, ◌-◌, ◌^◌, ℕ, filter}
use Rattle.std.specs.FinMap as map
use Rattle.rg_base.specs.declared.lock.Lock.{Lock}
use Rattle.rg_base.proofs.Walk.{passing_from}
use Rattle.rg_model.specs.Held.{first_owner}
use Rattle.rg_base.specs.Start.{start_of}
use Rattle.rg_judge.proofs.walk.has_locks.Given as goal

-- the first of the session's locks is not before the next key
abbrev pub invariant-loop-key : goal.invariant-loop-key
invariant-loop-key l =
    first_owner
    (passing_from (λ (lock : ℕ × Lock). lock.1.owner.0 == l.session.0) (start_of l.last)
    (map.entries l.locks))
    ≡
    first_owner (filter (λ (lock : ℕ × Lock). lock.1.owner.0 == l.session.0) (map.entries l.locks))

abbrev pub decreases-loop-key : goal.decreases-loop-key
decreases-loop-key l = 2 ^ 64 - start_of l.last
