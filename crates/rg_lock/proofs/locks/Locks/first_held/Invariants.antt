use Rattle.std.proofs.Common.{◌≤◌, ◌-◌, ◌^◌}
use Rattle.rg_lock.specs.First.{IsFreeBefore}
use Rattle.rg_lock.proofs.locks.Locks.first_held.Given as goal

-- no other session has a key before the one to be looked at
abbrev pub invariant-loop-from : goal.invariant-loop-from
invariant-loop-from l = IsFreeBefore l.self l.session l.lo l.from × (l.lo ≤ l.from)

abbrev pub decreases-loop-from : goal.decreases-loop-from
decreases-loop-from l = 2 ^ 64 - l.from
