-- Laws: how the bounds of a utility's numbers go on, and that an entry which the stage follows is
-- allowed.
use Rattle.std.specs.Prelude.{◌≡◌, ℕ, ◌≤◌, ◌-◌, true, false, List, Option, Some}
use Rattle.rg_base.specs.declared.control.Answer.{Answer}
use Rattle.rg_base.specs.declared.options.Options.{Options}
use Rattle.rg_feed.specs.declared.fold.item.Stage.{Stage}
use Rattle.rg_stmt.specs.declared.event.Entry.{Entry}
use Rattle.rg_stmt.specs.declared.event.Event.{Event}
use Rattle.rg_stmt.specs.declared.layout.Sides.{Sides}
use Rattle.rg_model.specs.Changes.{changes}
use Rattle.rg_model.specs.Claims.{least_holder}
use Rattle.rg_model.specs.Right.{is_right_switch}
use Rattle.rg_model.specs.State.{State, Utility}
use Rattle.rg_model.specs.Turn.{Turn, Switches, turn_of}
use Rattle.rg_model.specs.Utility.{new_utility}
use Rattle.rg_rules.specs.Stage.NumbersOf.{numbers_of}
use Rattle.rg_rules.specs.Stage.Followed.{Followed}
use Rattle.rg_rules.specs.Stage.Bounded.{Bounded}
use Rattle.rg_rules.specs.Stage.Booked.{Booked, is_fall, is_switch_turn}

-- a utility that starts is within the bounds
abbrev pub StartIsBounded : Type 0
StartIsBounded =
    (all entries : ℕ) (options : Options) (pages : ℕ) (s : Stage)
    → numbers_of s ≡ new_utility options pages → Bounded all entries s

-- what others write, and their entries, keep the bounds
abbrev pub BoundsGrow : Type 0
BoundsGrow =
    (all more entries later : ℕ) (s : Stage)
    → all ≤ more → entries ≤ later → Bounded all entries s → Bounded more later s

-- they are bounds of the numbers
abbrev pub NumbersAreBounded : Type 0
NumbersAreBounded =
    (all entries : ℕ) (s t : Stage)
    → numbers_of s ≡ numbers_of t → Bounded all entries s → Bounded all entries t

-- the state shows this utility and this drain, and the engine is up
pub record Shown (st : State) (s : Stage) : Type 0 where
  pub utility : st.utility ≡ Some (numbers_of s)
  pub drain : st.drain ≡ s.drain
  pub up : st.down ≡ false

-- an event that has this turn is the utility's next in the state
abbrev pub HasTurn : List Entry → Answer → State → Stage → Event → Turn → Type 0
HasTurn past answer st s event turn =
    turn_of (changes past) (least_holder st.drain st.claims) answer (numbers_of s) s.drain event
    ≡ Some turn

-- an entry that is no switch is allowed
abbrev pub EntryIsAllowed : Type 0
EntryIsAllowed =
    (past : List Entry) (answer : Answer) (event : Event) (st : State) (s : Stage) (turn : Turn)
    (stage : Option Stage)
    → Shown st s → HasTurn past answer st s event turn → is_switch_turn turn ≡ false
    → Followed turn stage → Booked past answer event st st.copy (is_fall turn) stage

-- a switch is allowed to the other copy, with the pages that were written, where it is right
abbrev pub SwitchIsAllowed : Type 0
SwitchIsAllowed =
    (past : List Entry) (answer : Answer) (event : Event) (st : State) (s : Stage) (copy : ℕ)
    (sides : Sides) (numbers : Utility) (stage : Option Stage)
    → Shown st s → HasTurn past answer st s event (Switches copy sides numbers)
    → copy ≡ 3 - st.copy → sides.new.pages ≡ s.shadow
    → is_right_switch past st s.options sides ≡ true
    → Followed (Switches copy sides numbers) stage → Booked past answer event st copy false stage
