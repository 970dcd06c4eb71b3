use Rattle.std.proofs.Common.{◌≡◌, ℕ}
use Rattle.rg_base.specs.First.{IsFirstFrom}
use Rattle.rg_model.specs.Held.{find_holder, first_owner}
use Rattle.rg_model.specs.State.{State}
use Rattle.rg_engine.specs.Shows.{Shows}
use Rattle.rg_engine.proofs.LockWalk.{holding_from, room_after, valued}
use Rattle.rg_engine.proofs.engine.Engine.find_holder.Given as goal

-- the first lock that holds the statement up is not before the next key
abbrev pub invariant-loop-next : goal.invariant-loop-next
invariant-loop-next l =
    (from : ℕ)
    × IsFirstFrom l.locks from (valued l.next)
    × ((st : State) (allowed : ℕ) → Shows st allowed l.self
    → first_owner (holding_from st.table l.locks l.session l.cat from)
    ≡ find_holder st.table st.locks l.session l.cat)

abbrev pub decreases-loop-next : goal.decreases-loop-next
decreases-loop-next l = room_after l.next
