use Rattle.std.proofs.Common.{◌≤◌, ◌-◌, length, take}
use Rattle.rg_page.specs.Bare.{numbers_of}
use Rattle.rg_restart.specs.Closed.{ClosedAll}
use Rattle.rg_restart.proofs.close.close_each.Given as goal

abbrev pub invariant-loop-at : goal.invariant-loop-at
invariant-loop-at l = record {
  low : l.at ≤ length l.trans;
  closed : ClosedAll (take l.at (numbers_of l.trans)) (take l.count l.fn.log.records) l.fn.space
      l.space l.fn.log l.log;
}

abbrev pub decreases-loop-at : goal.decreases-loop-at
decreases-loop-at l = length l.trans - l.at
