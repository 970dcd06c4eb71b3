use Rattle.std.proofs.Common.{◌-◌, ◌^◌}
use Rattle.rg_base.specs.Start.{start_of}
use Rattle.rg_judge.proofs.TableLemmas.LeastHeld.{IsLeastBefore}
use Rattle.rg_judge.proofs.table.held_cats.HeldCats.least.Given as goal

-- the least key of the sessions so far
abbrev pub invariant-loop-number : goal.invariant-loop-number
invariant-loop-number l = IsLeastBefore l.self.owners l.own.0 l.cat (start_of l.last) l.least

abbrev pub decreases-loop-number : goal.decreases-loop-number
decreases-loop-number l = 2 ^ 64 - start_of l.last
