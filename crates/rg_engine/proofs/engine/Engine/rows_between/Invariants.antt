use Rattle.std.proofs.Common.{take}
use Rattle.rg_engine.specs.Reads.{RowsRead}
use Rattle.rg_engine.proofs.engine.Engine.rows_between.Given as goal

-- the rows of the entries so far
abbrev pub invariant-loop-entry : goal.invariant-loop-entry
invariant-loop-entry l =
    RowsRead l.initial.self l.self (take l.entry-index l.entry-items) l.rows.items
