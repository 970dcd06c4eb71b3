use Rattle.std.proofs.Common.{◌-◌, ◌^◌}
use Rattle.std.specs.FinMap as map
use Rattle.rg_model.specs.Committed.{put_back}
use Rattle.rg_base.specs.Start.{start_of}
use Rattle.rg_model.proofs.Turned.{IsTurned}
use Rattle.rg_judge.proofs.walk.put_back.Given as goal

abbrev pub invariant-loop-key : goal.invariant-loop-key
invariant-loop-key l =
    IsTurned l.fn.table (put_back (map.entries l.locks) l.fn.table) (start_of l.last) l.after

abbrev pub decreases-loop-key : goal.decreases-loop-key
decreases-loop-key l = 2 ^ 64 - start_of l.last
