use Rattle.std.proofs.Common.{drop, length, ◌≤◌}
use Rattle.rg_engine.specs.Tabled.{TableRead}
use Rattle.rg_engine.proofs.engine.Engine.table.Given as goal

-- the rows of the last entries
abbrev pub invariant-loop-left : goal.invariant-loop-left
invariant-loop-left l = record {
  within : l.left ≤ length l.entries;
  read : TableRead l.initial.self l.self (drop l.left l.entries) l.table;
}

abbrev pub decreases-loop-left : goal.decreases-loop-left
decreases-loop-left l = l.left
