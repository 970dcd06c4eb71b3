-- Run: one next state of each event, as a relation. The engine's proofs go by it, and each run ends
-- in a state that is possible.
use Rattle.std.specs.Prelude.{ℕ, ◌≡◌, true, false, List, [], ◌∷◌, Option, Some}
use Rattle.std.specs.List.{Contains}
use Rattle.rg_base.specs.declared.control.Answer.{Answer}
use Rattle.rg_base.specs.declared.session.Session.{Session}
use Rattle.rg_stmt.specs.declared.event.Actor.{Actor}
use Rattle.rg_stmt.specs.declared.event.Actor.TheVariants as actors
use Rattle.rg_stmt.specs.declared.event.Entry.{Entry}
use Rattle.rg_stmt.specs.declared.event.Event.{Event}
use Rattle.rg_stmt.specs.declared.event.Event.TheVariants.{Opened, Said}
use Rattle.rg_stmt.specs.declared.stmt.Reply.{Reply}
use Rattle.rg_stmt.specs.declared.stmt.Reply.TheVariants.{Held, Victim, Drained, Full, LogFull}
use Rattle.rg_stmt.specs.declared.stmt.Reply.TheVariants.{Device, Down, NoMemory}
use Rattle.rg_stmt.specs.declared.stmt.Stmt.{Stmt}
use Rattle.rg_model.specs.Claims.{is_drained}
use Rattle.rg_model.specs.Plain.{plain_reply, after_answer, is_done, after_rollback}
use Rattle.rg_model.specs.Possible.{tables_left, is_copy_left, next_state}
use Rattle.rg_model.specs.Said.{may_want_memory, may_want_room, may_want_log, state_refused}
use Rattle.rg_model.specs.State.{State, Table, at_rest, row_count}

-- the statement may be answered so, and leaves this state
abbrev pub MayAnswer : State → Session → Stmt → Reply → State → Type 0
MayAnswer st session stmt NoMemory new = (may_want_memory stmt ≡ true) × (new ≡ st)
MayAnswer st session stmt (Victim owner) new =
    (plain_reply st session stmt ≡ Held owner) × (new ≡ after_rollback st session)
MayAnswer st session stmt (Full need) new =
    (may_want_room stmt ≡ true) × (is_done (plain_reply st session stmt) ≡ true) × (new ≡ st)
MayAnswer st session stmt (LogFull need left) new =
    (may_want_log stmt ≡ true) × (is_done (plain_reply st session stmt) ≡ true) × (new ≡ st)
MayAnswer st session stmt Device new =
    state_refused st session stmt (plain_reply st session stmt) ≡ Some new
MayAnswer st session stmt Drained new = ⊥
MayAnswer st session stmt Down new = ⊥
MayAnswer st session stmt reply new =
    (reply ≡ plain_reply st session stmt) × (new ≡ after_answer st session stmt reply)

-- DOWN, DRAINED, or an answer
abbrev pub Says : State → Session → Stmt → Reply → State → Type 0
Says st session stmt Down new = (st.down ≡ true) × (new ≡ st)
Says st session stmt Drained new =
    (st.down ≡ false) × (is_drained st session stmt ≡ true) × (new ≡ st)
Says st session stmt reply new =
    (st.down ≡ false) × (is_drained st session stmt ≡ false) × MayAnswer st session stmt reply new

-- an opening that finds this copy and as many committed rows
pub record Reopens (st : State) (copy rows : ℕ) (new : State) : Type 0 where
  pub table : Table
  pub left : Contains (tables_left st st.doubt) table
  pub copy_left : is_copy_left st copy ≡ true
  pub counted : row_count table ≡ rows
  pub at_rest : new ≡ at_rest table copy

-- openings and statements by a relation, any other event by the state that it leaves
abbrev pub Allows : List Entry → Option Answer → Actor → Event → State → State → Type 0
Allows past answer actors.System (Opened copy rows pages used) st new = Reopens st copy rows new
Allows past answer (actors.Session session) (Said stmt reply) st new =
    Says st session stmt reply new
Allows past answer actor event st new = next_state past answer actor event st ≡ Some new

-- The entries lead from one state to another. `past` are the entries before them, the newest first.
abbrev pub Run : List Entry → State → List Entry → State → Type 0
Run past st [] new = new ≡ st
Run past st (entry ∷ entries) new =
    (mid : State) × Allows past entry.answer entry.actor entry.event st mid
    × Run (entry ∷ past) mid entries new

-- these entries behind others, the newest first
abbrev pub behind : List Entry → List Entry → List Entry
behind past [] = past
behind past (entry ∷ entries) = behind (entry ∷ past) entries
