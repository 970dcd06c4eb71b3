use Rattle.std.proofs.Common.{◌≡◌, ◌+◌, ℕ}
use Rattle.std.specs.Option.{is_some}
use Rattle.rg_base.specs.First.{IsFirstFrom}
use Rattle.rg_model.specs.Committed.{committed_table}
use Rattle.rg_model.specs.State.{State, row_count}
use Rattle.rg_engine.specs.Shows.{Shows}
use Rattle.rg_engine.proofs.Counting.{left_from}
use Rattle.rg_engine.proofs.LockWalk.{room_after, valued}
use Rattle.rg_engine.proofs.engine.Engine.committed_rows.Given as goal

-- the rows that locks keep from the next key on are not counted yet
abbrev pub invariant-loop-next : goal.invariant-loop-next
invariant-loop-next l =
    (from : ℕ)
    × IsFirstFrom l.locks from (valued l.next)
    × ((st : State) (allowed : ℕ) → Shows st allowed l.self
    → l.count + left_from (λ lock. is_some lock.1.row) l.locks from
    ≡ row_count (committed_table st))

abbrev pub decreases-loop-next : goal.decreases-loop-next
decreases-loop-next l = room_after l.next
