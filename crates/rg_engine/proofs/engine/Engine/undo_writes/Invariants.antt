use Rattle.std.proofs.Common.{ℕ}
use Rattle.rg_model.specs.State.{State}
use Rattle.rg_engine.specs.Shows.{Shows, left_by}
use Rattle.rg_engine.specs.Undone.{IsUndoing}
use Rattle.rg_engine.proofs.engine.Engine.undo_writes.Given as goal

-- from each state that the engine showed, so many writes are undone
abbrev pub invariant-loop : goal.invariant-loop
invariant-loop l =
    (st : State) (allowed : ℕ) (shows : Shows st allowed l.fn.self)
    → IsUndoing l.fn.self (left_by shows.first l.fn.self) l.fn.unit l.self l.work l.at.0 l.back.0
    l.counter
