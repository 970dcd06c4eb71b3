-- Changes: how many changes a trace has made since a utility started. It is computed from the trace
-- only, whose entries stand with the newest first.
-- (1) Each INSERT, UPDATE and DELETE answered OK is one change.
-- (2) A rollback, asked for or forced on a victim, is one change for each such write of its unit,
--     also for writes before the utility started: the log has a record for each.
use Rattle.std.specs.Prelude.{ℕ, ◌==◌, ◌+◌, Bool, true, false, List, [], ◌∷◌, if◌then◌else◌}
use Rattle.rg_stmt.specs.declared.event.Actor.{Actor}
use Rattle.rg_stmt.specs.declared.event.Actor.TheVariants as actors
use Rattle.rg_stmt.specs.declared.event.Entry.{Entry}
use Rattle.rg_stmt.specs.declared.event.Event.{Event}
use Rattle.rg_stmt.specs.declared.event.Event.TheVariants as events
use Rattle.rg_stmt.specs.declared.stmt.Reply.{Reply}
use Rattle.rg_stmt.specs.declared.stmt.Reply.TheVariants.{Done, Victim}
use Rattle.rg_stmt.specs.declared.stmt.Stmt.{Stmt}
use Rattle.rg_stmt.specs.declared.stmt.Stmt.TheVariants.{Commit, Rollback}
use Rattle.rg_model.specs.Said.{may_want_log}

-- the statement wrote
abbrev pub is_write : Stmt → Reply → Bool
is_write stmt Done = may_want_log stmt
is_write stmt reply = false

-- the unit was rolled back
abbrev pub is_rollback : Stmt → Reply → Bool
is_rollback Rollback Done = true
is_rollback stmt (Victim owner) = true
is_rollback stmt reply = false

-- the unit is over
abbrev pub is_unit_end : Stmt → Reply → Bool
is_unit_end Commit Done = true
is_unit_end stmt reply = is_rollback stmt reply

abbrev pub writes_after : Stmt → Reply → ℕ → ℕ
writes_after stmt reply before =
    if is_unit_end stmt reply then 0 else (if is_write stmt reply then before + 1 else before)

-- the writes of the open unit of a session, by one entry and their number before it
abbrev pub unit_writes_after : (session : ℕ) → Actor → Event → ℕ → ℕ
unit_writes_after session actor (events.Opened copy rows pages used) before = 0
unit_writes_after session (actors.Session other) (events.Said stmt reply) before =
    if other.0 == session then writes_after stmt reply before else before
unit_writes_after session actor event before = before

abbrev pub unit_writes : (session : ℕ) → List Entry → ℕ
unit_writes session [] = 0
unit_writes session (entry ∷ past) =
    unit_writes_after session entry.actor entry.event (unit_writes session past)

-- the changes of one entry
abbrev pub changes_of : Actor → Event → List Entry → ℕ
changes_of (actors.Session session) (events.Said stmt reply) past =
    if is_write stmt reply
    then 1
    else (if is_rollback stmt reply then unit_writes session.0 past else 0)
changes_of actor event past = 0

abbrev pub changes_after : Actor → Event → List Entry → ℕ → ℕ
changes_after actor (events.Started options copy pages) past before = 0
changes_after actor event past before = before + changes_of actor event past

-- the changes since the last start of a utility
abbrev pub changes : List Entry → ℕ
changes [] = 0
changes (entry ∷ past) = changes_after entry.actor entry.event past (changes past)
