use Rattle.std.proofs.Common.{◌-◌, ◌^◌}
use Rattle.rg_base.specs.Start.{start_of}
use Rattle.rg_judge.proofs.TableLemmas.CatsKept.{AreCatsBelow}
use Rattle.rg_judge.proofs.table.cat_table.cats_of.Given as goal

-- the keys so far are in the sets
abbrev pub invariant-loop-key : goal.invariant-loop-key
invariant-loop-key l = AreCatsBelow l.rows (start_of l.last) l.cats.sets

abbrev pub decreases-loop-key : goal.decreases-loop-key
decreases-loop-key l = 2 ^ 64 - start_of l.last
