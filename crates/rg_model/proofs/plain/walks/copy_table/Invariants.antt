use Rattle.std.proofs.Common.{◌-◌, ◌^◌}
use Rattle.std.specs.FinMap as map
use Rattle.rg_base.specs.Start.{start_of}
use Rattle.rg_model.proofs.Turned.{IsTurned}
use Rattle.rg_model.proofs.plain.walks.copy_table.Given as goal

abbrev pub invariant-loop-key : goal.invariant-loop-key
invariant-loop-key l = IsTurned map.empty l.table (start_of l.last) l.copy

abbrev pub decreases-loop-key : goal.decreases-loop-key
decreases-loop-key l = 2 ^ 64 - start_of l.last
