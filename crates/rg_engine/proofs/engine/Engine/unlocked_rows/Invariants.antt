use Rattle.std.proofs.Common.{◌≡◌, ◌+◌, ℕ}
use Rattle.rg_base.specs.First.{IsFirstFrom}
use Rattle.rg_model.specs.State.{State, is_present, row_count}
use Rattle.rg_engine.specs.Count.{locked_present}
use Rattle.rg_engine.specs.Shows.{Shows}
use Rattle.rg_engine.proofs.Counting.{left_from}
use Rattle.rg_engine.proofs.LockWalk.{room_after, valued}
use Rattle.rg_engine.proofs.engine.Engine.unlocked_rows.Given as goal

-- the rows whose keys are locked from the next key on are still counted
abbrev pub invariant-loop-next : goal.invariant-loop-next
invariant-loop-next l =
    (from : ℕ)
    × IsFirstFrom l.locks from (valued l.next)
    × ((st : State) (allowed : ℕ) → Shows st allowed l.self
    → l.count + locked_present st
    ≡ row_count st.table + left_from (λ lock. is_present st.table lock.0) l.locks from)

abbrev pub decreases-loop-next : goal.decreases-loop-next
decreases-loop-next l = room_after l.next
