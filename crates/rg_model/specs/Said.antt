-- Refusal rule: how the engine may answer a statement, and the state that each reply leaves.
-- (1) While the engine is down, every statement is answered DOWN.
-- (2) Else a statement that a drain covers is answered DRAINED, and any other by the plain table's
--     reply or by one that stands for it: VICTIM for HELD; FULL, LOGFULL or DEVICE for a reply with
--     number 0; NOMEMORY for all but that of COMMIT.
-- (3) A refusal leaves the state as it is, with three exceptions: DEVICE to a COMMIT brings the
--     engine down and leaves open whether the commit is in; DEVICE to a ROLLBACK, or in place of
--     VICTIM, brings it down; VICTIM rolls its unit back.
use Rattle.std.specs.Prelude.{◌==◌, ◌&&◌, Bool, true, false, Option, Some, None, if◌then◌else◌}
use Rattle.std.specs.FinMap as fin
use Rattle.std.specs.List.{list_any}
use Rattle.rg_base.specs.declared.session.Session.{Session}
use Rattle.rg_stmt.specs.declared.stmt.Reply.{Reply}
use Rattle.rg_stmt.specs.declared.stmt.Reply.TheVariants.{Held, Victim, Drained, Full, LogFull}
use Rattle.rg_stmt.specs.declared.stmt.Reply.TheVariants.{Device, Down, NoMemory}
use Rattle.rg_stmt.specs.declared.stmt.Stmt.{Stmt}
use Rattle.rg_stmt.specs.declared.stmt.Stmt.TheVariants.{Insert, Update, Delete, Commit, Rollback}
use Rattle.rg_model.specs.Claims.{is_drained}
use Rattle.rg_model.specs.Plain.{plain_reply, after_answer, after_rollback, is_done}
use Rattle.rg_model.specs.Same.{same_reply}
use Rattle.rg_model.specs.State.{State, Locks}

-- the state, where it is allowed
abbrev pub if_allowed : Bool → State → Option State
if_allowed allowed st = if allowed then Some st else None

-- the end of a unit takes no memory when it commits
abbrev pub may_want_memory : Stmt → Bool
may_want_memory Commit = false
may_want_memory stmt = true

-- a row may need a new area
abbrev pub may_want_room : Stmt → Bool
may_want_room (Insert row) = true
may_want_room (Update row) = true
may_want_room stmt = false

-- a write needs room in the log
abbrev pub may_want_log : Stmt → Bool
may_want_log (Insert row) = true
may_want_log (Update row) = true
may_want_log (Delete key) = true
may_want_log stmt = false

-- the session has a lock, so its unit wrote
abbrev pub has_locks : Locks → Session → Bool
has_locks locks session = list_any (λ lock. lock.1.owner.0 == session.0) (fin.entries locks)

-- Where the device refuses the end of a unit the engine is down, and of a COMMIT it is open whether
-- it is in. A COMMIT of a unit without writes calls no device.
abbrev pub state_failed : State → Session → Stmt → Option State
state_failed st session Commit =
    if_allowed (has_locks st.locks session) (record st { down = true; doubt = Some session })
state_failed st session Rollback = Some (record st { down = true })
state_failed st session stmt = Some st

-- the device refuses a statement that would be answered with number 0, or the rollback of a victim
abbrev pub state_refused : State → Session → Stmt → Reply → Option State
state_refused st session stmt (Held owner) = Some (record st { down = true })
state_refused st session stmt plain = if is_done plain then state_failed st session stmt else None

-- The plain table's reply, or one of the engine's in its place. A victim's unit is rolled back.
abbrev pub state_answered : State → Session → Stmt → Reply → Option State
state_answered st session stmt NoMemory = if_allowed (may_want_memory stmt) st
state_answered st session stmt (Victim owner) =
    if_allowed (same_reply (Held owner) (plain_reply st session stmt)) (after_rollback st session)
state_answered st session stmt (Full need) =
    if_allowed (may_want_room stmt && is_done (plain_reply st session stmt)) st
state_answered st session stmt (LogFull need left) =
    if_allowed (may_want_log stmt && is_done (plain_reply st session stmt)) st
state_answered st session stmt Device = state_refused st session stmt (plain_reply st session stmt)
state_answered st session stmt Drained = None
state_answered st session stmt Down = None
state_answered st session stmt reply =
    if_allowed (same_reply reply (plain_reply st session stmt)) (after_answer st session stmt reply)

-- DRAINED if and only if the drain covers what the statement needs
abbrev pub state_admitted : State → Session → Stmt → Reply → Option State
state_admitted st session stmt reply =
    if is_drained st session stmt
    then if_allowed (same_reply reply Drained) st
    else state_answered st session stmt reply

-- DOWN if and only if the engine is down
abbrev pub state_said : State → Session → Stmt → Reply → Option State
state_said st session stmt reply =
    if st.down then if_allowed (same_reply reply Down) st else state_admitted st session stmt reply
