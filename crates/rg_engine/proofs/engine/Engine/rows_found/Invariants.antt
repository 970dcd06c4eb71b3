use Rattle.std.proofs.Common.{◌≡◌, List, length}
use Rattle.rg_laws_log.specs.LogState.Write.{Write}
use Rattle.rg_engine.specs.Walks.{Walks}
use Rattle.rg_engine.proofs.Readying.{Found}
use Rattle.rg_engine.proofs.engine.Engine.rows_found.Given as goal

-- the rows so far, whichever writes they are of
abbrev pub invariant-loop : goal.invariant-loop
invariant-loop l =
    (ws : List Write) → Walks l.fn.self.log.records l.fn.unit.tran.0 l.fn.unit.last.0 ws
    → length ws ≡ l.fn.unit.writes
    → Found l.fn.self.log.records l.fn.unit ws l.at.0 l.counter l.rows.items
