-- Plain: the reply to a statement and the state that it leaves, as of one plain table without
-- pages, claims or a utility.
-- (1) HELD takes precedence over NONE and DUPLICATE, so uncommitted changes of other sessions are
--     never revealed.
-- (2) An OK write sets the row of its key. Where the key is not locked it also locks it, and the
--     lock keeps the row, or the absence of one, from before.
-- (3) COMMIT drops the session's locks. ROLLBACK first puts back the rows that they keep. Both drop
--     its claim.
use Rattle.std.specs.Prelude.{ℕ, ◌==◌, ◌&&◌, nat_le, Bool, true, false, List, Option, Some, None}
use Rattle.std.specs.Prelude.{if◌then◌else◌, map, filter}
use Rattle.std.specs.FinMap as fin
use Rattle.rg_base.specs.declared.row.Row.{Row}
use Rattle.rg_base.specs.declared.session.Session.{Session}
use Rattle.rg_stmt.specs.declared.stmt.Reply.{Reply}
use Rattle.rg_stmt.specs.declared.stmt.Reply.TheVariants.{Done, Found, Listed, Keyed, Absent}
use Rattle.rg_stmt.specs.declared.stmt.Reply.TheVariants.{Duplicate, Held, Victim, Drained, Full}
use Rattle.rg_stmt.specs.declared.stmt.Reply.TheVariants.{LogFull, Device, Down, NoMemory}
use Rattle.rg_stmt.specs.declared.stmt.Stmt.{Stmt}
use Rattle.rg_stmt.specs.declared.stmt.Stmt.TheVariants.{Insert, Update, Delete, Select, Scan, Find}
use Rattle.rg_stmt.specs.declared.stmt.Stmt.TheVariants.{Commit, Rollback}
use Rattle.rg_model.specs.Claims.{classes_needed, claim_classes}
use Rattle.rg_model.specs.Committed.{set_to, put_back, locks_without, own_locks}
use Rattle.rg_model.specs.Held.{holder, scan_holder, find_holder}
use Rattle.rg_model.specs.State.{State, Table, Locks, row_of, is_present, entries_of}

-- HELD takes precedence over any other reply
abbrev pub unless_held : Option Session → Reply → Reply
unless_held None reply = reply
unless_held (Some owner) reply = Held owner

-- INSERT is a duplicate where the key is present
abbrev pub insert_reply : Bool → Reply
insert_reply present = if present then Duplicate else Done

-- UPDATE and DELETE need a row
abbrev pub change_reply : Bool → Reply
change_reply present = if present then Done else Absent

-- SELECT finds the row of the key
abbrev pub row_reply : Option Row → Reply
row_reply None = Absent
row_reply (Some row) = Found row

-- the rows of the keys from `lo` to `hi`, by rising key
abbrev pub rows_between : ℕ → ℕ → Table → List Row
rows_between lo hi table =
    map (λ entry. entry.1)
    (filter (λ entry. nat_le lo entry.0 && nat_le entry.0 hi) (entries_of table))

-- the rising keys of the rows with this `cat`
abbrev pub keys_with_cat : ℕ → Table → List ℕ
keys_with_cat cat table =
    map (λ entry. entry.0) (filter (λ entry. entry.1.cat == cat) (entries_of table))

-- the first case that applies
abbrev pub plain_reply : State → Session → Stmt → Reply
plain_reply st session (Insert row) =
    unless_held (holder st.locks session row.key) (insert_reply (is_present st.table row.key))
plain_reply st session (Update row) =
    unless_held (holder st.locks session row.key) (change_reply (is_present st.table row.key))
plain_reply st session (Delete key) =
    unless_held (holder st.locks session key) (change_reply (is_present st.table key))
plain_reply st session (Select key) =
    unless_held (holder st.locks session key) (row_reply (row_of st.table key))
plain_reply st session (Scan lo hi) =
    unless_held (scan_holder st.locks session lo hi) (Listed (rows_between lo hi st.table))
plain_reply st session (Find cat) =
    unless_held (find_holder st.table st.locks session cat) (Keyed (keys_with_cat cat st.table))
plain_reply st session Commit = Done
plain_reply st session Rollback = Done

-- a write locks its key, and keeps the row or absence from before where the key was not locked
abbrev pub lock_key : State → Session → ℕ → Locks
lock_key st session key =
    if fin.contains_key st.locks key
    then st.locks
    else fin.insert st.locks key (record { owner = session; row = row_of st.table key })

abbrev pub write_key : State → Session → ℕ → Option Row → State
write_key st session key row =
    record st { table = set_to st.table key row; locks = lock_key st session key }

-- the end of a unit drops its session's locks and claim
abbrev pub after_commit : State → Session → State
after_commit st session =
    record st { locks = locks_without session st.locks; claims = fin.remove st.claims session.0 }

-- the kept rows of the session's locks are put back, and then the same
abbrev pub after_rollback : State → Session → State
after_rollback st session =
    record st {
      table = put_back (fin.entries (own_locks session st.locks)) st.table;
      locks = locks_without session st.locks;
      claims = fin.remove st.claims session.0;
    }

-- the state after a statement that is done
abbrev pub after : State → Session → Stmt → State
after st session (Insert row) = write_key st session row.key (Some row)
after st session (Update row) = write_key st session row.key (Some row)
after st session (Delete key) = write_key st session key None
after st session (Select key) = st
after st session (Scan lo hi) = st
after st session (Find cat) = st
after st session Commit = after_commit st session
after st session Rollback = after_rollback st session

-- replies with number 0
abbrev pub is_done : Reply → Bool
is_done Done = true
is_done (Found row) = true
is_done (Listed rows) = true
is_done (Keyed keys) = true
is_done Absent = false
is_done Duplicate = false
is_done (Held owner) = false
is_done (Victim owner) = false
is_done Drained = false
is_done (Full need) = false
is_done (LogFull need left) = false
is_done Device = false
is_done Down = false
is_done NoMemory = false

-- a statement that is answered with number 0 acts and registers its classes; any other leaves the
-- state as it is
abbrev pub after_answer : State → Session → Stmt → Reply → State
after_answer st session stmt reply =
    if is_done reply
    then claim_classes (after st session stmt) session (classes_needed stmt)
    else st

-- a plain table's reply, or out of memory: it has no victims, drains, pages, log or device
abbrev pub is_table_reply : Reply → Bool
is_table_reply (Victim owner) = false
is_table_reply Drained = false
is_table_reply (Full need) = false
is_table_reply (LogFull need left) = false
is_table_reply Device = false
is_table_reply Down = false
is_table_reply reply = true
