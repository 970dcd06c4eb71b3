-- The state after an entry of the utility, beside the stage that the engine keeps.
use Rattle.std.specs.Prelude.{◌≡◌, ℕ, ◌||◌, Bool, true, false, List, Option, Some, None}
use Rattle.rg_base.specs.declared.control.Answer.{Answer}
use Rattle.rg_base.specs.declared.options.DrainState.{DrainState}
use Rattle.rg_base.specs.declared.options.DrainState.TheVariants.{Free}
use Rattle.rg_feed.specs.declared.fold.item.Stage.{Stage}
use Rattle.rg_stmt.specs.declared.event.Actor.TheVariants as actors
use Rattle.rg_stmt.specs.declared.event.Entry.{Entry}
use Rattle.rg_stmt.specs.declared.event.Event.{Event}
use Rattle.rg_model.specs.Possible.{next_state}
use Rattle.rg_model.specs.State.{State, Utility}
use Rattle.rg_model.specs.Turn.{Turn, Switches, Falls}
use Rattle.rg_rules.specs.Stage.NumbersOf.{numbers_of}

-- where no utility runs no drain is in force
abbrev pub drain_kept : Option Stage → DrainState
drain_kept None = Free
drain_kept (Some s) = s.drain

-- the numbers of the utility that runs
abbrev pub utility_kept : Option Stage → Option Utility
utility_kept None = None
utility_kept (Some s) = Some (numbers_of s)

-- the turn leaves the engine down
abbrev pub is_fall : Turn → Bool
is_fall Falls = true
is_fall turn = false

-- the turn makes the other copy current
abbrev pub is_switch_turn : Turn → Bool
is_switch_turn (Switches copy sides numbers) = true
is_switch_turn turn = false

-- The entry is allowed, and leaves a state with the utility and the drain of this stage, and this
-- copy. All else is as before, but that the engine may fall: then it is down, and it is in doubt
-- which copy is current.
pub record Booked (past : List Entry) (answer : Answer) (event : Event) (st : State) (copy : ℕ)
    (falls : Bool) (stage : Option Stage) : Type 0 where
  pub after : State
  pub allowed : next_state past (Some answer) actors.Utility event st ≡ Some after
  pub utility : after.utility ≡ utility_kept stage
  pub drain : after.drain ≡ drain_kept stage
  pub copy_is : after.copy ≡ copy
  pub table : after.table ≡ st.table
  pub locks : after.locks ≡ st.locks
  pub claims : after.claims ≡ st.claims
  pub down : after.down ≡ (falls || st.down)
  pub doubt : after.doubt ≡ st.doubt
  pub copydoubt : after.copydoubt ≡ (falls || st.copydoubt)
