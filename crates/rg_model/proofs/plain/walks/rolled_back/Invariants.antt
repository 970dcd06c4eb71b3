use Rattle.std.proofs.Common.{◌-◌, ◌^◌}
use Rattle.std.specs.FinMap as map
use Rattle.rg_model.specs.Committed.{put_back, own_locks}
use Rattle.rg_base.specs.Start.{start_of}
use Rattle.rg_model.proofs.Turned.{IsTurned}
use Rattle.rg_model.proofs.plain.walks.rolled_back.Given as goal

abbrev pub invariant-loop-key : goal.invariant-loop-key
invariant-loop-key l = IsTurned l.table
    (put_back (map.entries (own_locks l.session l.locks)) l.table) (start_of l.last) l.rolled

abbrev pub decreases-loop-key : goal.decreases-loop-key
decreases-loop-key l = 2 ^ 64 - start_of l.last
