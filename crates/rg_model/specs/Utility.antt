-- The states that a utility's start and its steps leave.
use Rattle.std.specs.Prelude.{ℕ, ◌==◌, ◌&&◌, ◌-◌, Bool, true, false, List, Option, Some, None}
use Rattle.rg_base.specs.declared.control.Answer.{Answer}
use Rattle.rg_base.specs.declared.options.DrainState.TheVariants.{Free}
use Rattle.rg_base.specs.declared.options.Options.{Options}
use Rattle.rg_stmt.specs.declared.event.Entry.{Entry}
use Rattle.rg_stmt.specs.declared.event.Event.{Event}
use Rattle.rg_model.specs.Changes.{changes}
use Rattle.rg_model.specs.Claims.{least_holder}
use Rattle.rg_model.specs.Right.{is_right_switch}
use Rattle.rg_model.specs.Said.{if_allowed}
use Rattle.rg_model.specs.State.{State, Utility}
use Rattle.rg_model.specs.Turn.{Turn, Runs, Switches, Stops, Falls, turn_of}
use Rattle.rg_stmt.specs.declared.event.Event.TheVariants as events

-- a utility that has done nothing
abbrev pub new_utility : Options → (pages : ℕ) → Utility
new_utility options pages = record {
  options = options;
  pages = pages;
  copied = 0;
  unloaded = 0;
  reloaded = 0;
  filled = 0;
  sorted = 0;
  built = 0;
  iteration = 0;
  target = 0;
  done = 0;
  size = 0;
  asked = 0;
  gave_up = None;
  message = None;
  failed = 0;
  shadow = 0;
  last = false;
  written = false;
  switched = false;
}

abbrev pub start_utility : State → Options → (pages : ℕ) → State
start_utility st options pages = record st { utility = Some (new_utility options pages) }

-- the drain and the utility are gone
abbrev pub stop_utility : State → State
stop_utility st = record st { drain = Free; utility = None }

-- The state that a turn leaves. A switch is allowed to the other copy, with as many pages as were
-- written, where it is right.
abbrev pub state_of_turn : List Entry → State → Utility → Turn → Option State
state_of_turn past st u (Runs v drain) = Some (record st { drain = drain; utility = Some v })
state_of_turn past st u (Switches copy sides v) =
    if_allowed
    (copy == 3 - st.copy
    && (sides.new.pages == u.shadow && is_right_switch past st u.options sides))
    (record st { copy = copy; drain = Free; utility = Some v })
state_of_turn past st u Stops = Some (stop_utility st)
state_of_turn past st u Falls = Some (record (stop_utility st) { down = true; copydoubt = true })

abbrev pub state_by_turn : List Entry → State → Utility → Option Turn → Option State
state_by_turn past st u None = None
state_by_turn past st u (Some turn) = state_of_turn past st u turn

-- a step of a running utility; without an answer of the operator none is allowed
abbrev pub state_stepped : List Entry → Option Answer → Event → State → Utility → Option State
state_stepped past None event st u = None
state_stepped past (Some answer) event st u =
    state_by_turn past st u
    (turn_of (changes past) (least_holder st.drain st.claims) answer u st.drain event)

-- a utility starts
abbrev pub starts_utility : Event → Bool
starts_utility (events.Started options copy pages) = true
starts_utility event = false
