-- How many bytes the entries since an opening have allowed the pages of a copy to claim.
--
-- 1. An opening allows 4,064 bytes for each page that it finds. An INSERT or UPDATE that is
--    answered OK allows what its row weighs.
-- 2. What the writes of an open unit found is counted, by its session. A unit that is rolled back
--    while a utility runs allows it, for the rows that it puts back are sent too.
-- 3. No other entry allows anything. The rows that a write finds are those of the plain table that
--    the entries lead to.
use Rattle.std.specs.Prelude.{◌+◌, ◌*◌, ◌==◌, ℕ, List, [], ◌∷◌, Option, Some, None, if◌then◌else◌}
use Rattle.rg_base.specs.declared.control.Answer.{Answer}
use Rattle.rg_laws_pages.specs.ByteClaims.Weight.{weight}
use Rattle.rg_model.specs.Possible.{next_state}
use Rattle.rg_model.specs.State.{State, Table, Utility, at_rest, row_of}
use Rattle.rg_stmt.specs.declared.event.Actor.{Actor}
use Rattle.rg_stmt.specs.declared.event.Actor.TheVariants as actors
use Rattle.rg_stmt.specs.declared.event.Entry.{Entry}
use Rattle.rg_stmt.specs.declared.event.Event.{Event}
use Rattle.rg_stmt.specs.declared.event.Event.TheVariants.{Opened, Said}
use Rattle.rg_stmt.specs.declared.stmt.Reply.{Reply}
use Rattle.rg_stmt.specs.declared.stmt.Reply.TheVariants.{Done, Victim}
use Rattle.rg_stmt.specs.declared.stmt.Stmt.{Stmt}
use Rattle.rg_stmt.specs.declared.stmt.Stmt.TheVariants.{Commit, Delete, Insert, Rollback, Update}

-- the bytes that are allowed, and what the rows weigh that the writes of each session's open unit
-- found
pub record Account : Type 0 where
  pub allowed : ℕ
  pub found : ℕ → ℕ

-- a session's writes have found more
abbrev pub found_with : (found : ℕ → ℕ) → (session more : ℕ) → ℕ → ℕ
found_with found session more n = if n == session then found n + more else found n

-- a session's unit has ended
abbrev pub found_without : (found : ℕ → ℕ) → (session : ℕ) → ℕ → ℕ
found_without found session n = if n == session then 0 else found n

-- so much is sent again, where a utility runs
abbrev pub sent_again : Option Utility → ℕ → ℕ
sent_again None n = 0
sent_again (Some utility) n = n

-- a session's unit is rolled back
abbrev pub account_undone : State → Account → (session : ℕ) → Account
account_undone st a session = record {
  allowed = a.allowed + sent_again st.utility (a.found session);
  found = found_without a.found session;
}

-- a session's statement is done
abbrev pub account_done : State → Account → (session : ℕ) → Stmt → Account
account_done st a session (Insert row) = record {
  allowed = a.allowed + weight (Some row);
  found = a.found;
}
account_done st a session (Update row) = record {
  allowed = a.allowed + weight (Some row);
  found = found_with a.found session (weight (row_of st.table row.key));
}
account_done st a session (Delete key) = record {
  allowed = a.allowed;
  found = found_with a.found session (weight (row_of st.table key));
}
account_done st a session Commit = record {
  allowed = a.allowed;
  found = found_without a.found session;
}
account_done st a session Rollback = account_undone st a session
account_done st a session stmt = a

abbrev pub account_said : State → Account → (session : ℕ) → Stmt → Reply → Account
account_said st a session stmt Done = account_done st a session stmt
account_said st a session stmt (Victim owner) = account_undone st a session
account_said st a session stmt reply = a

-- after an event, from this state
abbrev pub account_after : State → Account → Actor → Event → Account
account_after st a actors.System (Opened copy rows pages used) = record {
  allowed = 4064 * pages;
  found = λ session. 0;
}
account_after st a (actors.Session session) (Said stmt reply) =
    account_said st a session.0 stmt reply
account_after st a actor event = a

-- the state that an event leaves; one that cannot be leaves it as it was
abbrev pub state_or : State → Option State → State
state_or st None = st
state_or st (Some new) = new

-- the state after an event: that of its one next state, and after an opening that of a table at
-- rest
abbrev pub state_after : List Entry → State → Option Answer → Actor → Event → State
state_after past st answer actors.System (Opened copy rows pages used) = at_rest st.table copy
state_after past st answer actor event = state_or st (next_state past answer actor event st)

-- `past` are the entries before these, the newest first
abbrev pub state_by : List Entry → State → List Entry → State
state_by past st [] = st
state_by past st (entry ∷ entries) =
    state_by (entry ∷ past) (state_after past st entry.answer entry.actor entry.event) entries

abbrev pub account_by : List Entry → State → Account → List Entry → Account
account_by past st a [] = a
account_by past st a (entry ∷ entries) =
    account_by (entry ∷ past) (state_after past st entry.answer entry.actor entry.event)
    (account_after st a entry.actor entry.event) entries

-- before the first entry, which is that of an opening
abbrev pub first_state : Table → State
first_state start = at_rest start 1

abbrev pub no_account : Account
no_account = record { allowed = 0; found = λ session. 0 }

-- what entries have allowed whose opening found this table
abbrev pub account_of : Table → List Entry → Account
account_of start trace = account_by [] (first_state start) no_account trace

abbrev pub allowed_of : Table → List Entry → ℕ
allowed_of start trace = (account_of start trace).allowed
