use Rattle.std.proofs.Common.{◌≡◌}
use Rattle.std.specs.FinMap as map
use Rattle.rg_model.specs.Committed.{locks_without}
use Rattle.rg_lock.proofs.locks.Locks.end.Given as goal

-- the locks of others are those of the beginning
abbrev pub invariant-loop-released : goal.invariant-loop-released
invariant-loop-released l = locks_without l.session l.self ≡ locks_without l.session l.fn.self

abbrev pub decreases-loop-released : goal.decreases-loop-released
decreases-loop-released l = map.len l.self
