-- Possible: the states that a trace allows, as a list.
-- (1) It begins with a table at rest, at the copy that entry 0 names. Entry 0 is an opening of copy
--     1 or 2.
-- (2) Each entry maps each state to those that it allows. One whose actor is not its event's allows
--     none.
-- (3) Only an opening may find one of two tables: a COMMIT that the device refused may be in or
--     out.
use Rattle.std.specs.Prelude.{ℕ, ◌==◌, ◌||◌, ◌&&◌, ◌-◌, Bool, not, List, [], ◌∷◌, Option, Some}
use Rattle.std.specs.Prelude.{None, if◌then◌else◌, map, filter, is_some}
use Rattle.std.specs.List.{flat_map}
use Rattle.rg_base.specs.declared.control.Answer.{Answer}
use Rattle.rg_base.specs.declared.options.Options.{Options}
use Rattle.rg_base.specs.declared.session.Session.{Session}
use Rattle.rg_stmt.specs.declared.event.Actor.{Actor}
use Rattle.rg_stmt.specs.declared.event.Actor.TheVariants as actors
use Rattle.rg_stmt.specs.declared.event.Entry.{Entry}
use Rattle.rg_stmt.specs.declared.event.Event.{Event}
use Rattle.rg_stmt.specs.declared.event.Event.TheVariants as events
use Rattle.rg_stmt.specs.declared.layout.Side.{Side}
use Rattle.rg_model.specs.Committed.{committed_table, committed_table_with}
use Rattle.rg_model.specs.Layout.{is_right_side}
use Rattle.rg_model.specs.Said.{if_allowed, state_said}
use Rattle.rg_model.specs.State.{State, Table, Utility, at_rest, row_count}
use Rattle.rg_model.specs.Utility.{start_utility, state_stepped}

-- process death keeps the committed rows; a COMMIT in doubt may be in
abbrev pub tables_left : State → Option Session → List Table
tables_left st None = committed_table st ∷ []
tables_left st (Some session) = committed_table st ∷ committed_table_with st session ∷ []

-- the other copy may be current where the switch is in doubt
abbrev pub is_copy_left : State → ℕ → Bool
is_copy_left st copy = copy == st.copy || (st.copydoubt && (copy == 3 - st.copy))

-- an opening finds the copy, and the number of its committed rows
abbrev pub states_opened : State → ℕ → ℕ → List State
states_opened st copy rows =
    if is_copy_left st copy
    then map (λ table. at_rest table copy)
    (filter (λ table. row_count table == rows) (tables_left st st.doubt))
    else []

-- an event that changes nothing, while the engine is up
abbrev pub state_up : State → Option State
state_up st = if_allowed (not st.down) st

-- an event that is refused if and only if the engine is down
abbrev pub state_down : State → Option State
state_down st = if_allowed st.down st

-- a layout is that of the current copy, and right for the table
abbrev pub state_shown : State → ℕ → Side → Option State
state_shown st copy side =
    if_allowed (not st.down && ((copy == st.copy) && is_right_side st.table side)) st

-- a utility starts where none runs, over the current copy
abbrev pub state_started : State → Options → ℕ → ℕ → Option State
state_started st options copy pages =
    if_allowed (not st.down && (not (is_some st.utility) && (copy == st.copy)))
    (start_utility st options pages)

abbrev pub state_active : State → Option State
state_active st = if_allowed (not st.down && is_some st.utility) st

-- no utility runs: a start is refused, or a step finds none
abbrev pub state_idle : State → Option State
state_idle st = if_allowed (not st.down && not (is_some st.utility)) st

-- a step of the utility that runs, by the entries before and the operator's answer
abbrev pub state_after_step :
    List Entry → Option Answer → Event → State → Option Utility → Option State
state_after_step past answer event st None = None
state_after_step past answer event st (Some utility) =
    if st.down then None else state_stepped past answer event st utility

-- The state after an event, but for an opening. An event whose actor isn't its own allows nothing.
-- `past` are the entries before, the newest first.
abbrev pub next_state : List Entry → Option Answer → Actor → Event → State → Option State
next_state past answer (actors.Session session) (events.Said stmt reply) st =
    state_said st session stmt reply
next_state past answer (actors.Session session) event st = None
next_state past answer actors.System (events.Flush page) st = state_up st
next_state past answer actors.System events.Clean st = state_up st
next_state past answer actors.System events.FlushDevice st = state_up st
next_state past answer actors.System events.FlushDown st = state_down st
next_state past answer actors.System events.FlushNoMemory st = state_up st
next_state past answer actors.System (events.Layout copy side) st = state_shown st copy side
next_state past answer actors.System events.LayoutDevice st = state_up st
next_state past answer actors.System events.LayoutDown st = state_down st
next_state past answer actors.System events.LayoutNoMemory st = state_up st
next_state past answer actors.System event st = None
next_state past answer actors.Utility (events.Started options copy pages) st =
    state_started st options copy pages
next_state past answer actors.Utility events.Active st = state_active st
next_state past answer actors.Utility (events.StartLogFull need left) st = state_idle st
next_state past answer actors.Utility events.StartDown st = state_down st
next_state past answer actors.Utility events.StartNoMemory st = state_idle st
next_state past answer actors.Utility events.Idle st = state_idle st
next_state past answer actors.Utility events.StepDown st = state_down st
next_state past answer actors.Utility event st = state_after_step past answer event st st.utility

abbrev pub one_state : Option State → List State
one_state None = []
one_state (Some st) = st ∷ []

-- an opening may find one table of two
abbrev pub states_after : List Entry → Option Answer → Actor → Event → State → List State
states_after past answer actors.System (events.Opened copy rows pages used) st =
    states_opened st copy rows
states_after past answer actor event st = one_state (next_state past answer actor event st)

abbrev pub states_from : List Entry → List State → List Entry → List State
states_from past states [] = states
states_from past states (entry ∷ entries) =
    states_from (entry ∷ past)
    (flat_map (states_after past entry.answer entry.actor entry.event) states) entries

-- entry 0 opens the table at copy 1 or 2
abbrev pub states_before : Table → Event → List State
states_before start (events.Opened copy rows pages used) =
    if copy == 1 || copy == 2 then at_rest start copy ∷ [] else []
states_before start event = []

abbrev pub possible : Table → List Entry → List State
possible start [] = at_rest start 1 ∷ []
possible start (entry ∷ entries) =
    states_from [] (states_before start entry.event) (entry ∷ entries)
