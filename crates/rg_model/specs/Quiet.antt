-- Quiet: which keys nobody has touched since a utility started. It is computed from the trace only,
-- whose entries stand with the newest first.
-- (1) A key is quiet where it was present and unlocked at the start and no write answered OK since
--     names it.
-- (2) It is asked of keys of the present table: such a key, unlocked at the start and not written
--     since, was present then.
use Rattle.std.specs.Prelude.{ℕ, ◌==◌, ◌&&◌, Bool, false, not, List, [], ◌∷◌, if◌then◌else◌}
use Rattle.std.specs.List.{list_any}
use Rattle.rg_stmt.specs.declared.event.Actor.{Actor}
use Rattle.rg_stmt.specs.declared.event.Actor.TheVariants as actors
use Rattle.rg_stmt.specs.declared.event.Entry.{Entry}
use Rattle.rg_stmt.specs.declared.event.Event.{Event}
use Rattle.rg_stmt.specs.declared.event.Event.TheVariants as events
use Rattle.rg_stmt.specs.declared.stmt.Reply.{Reply}
use Rattle.rg_stmt.specs.declared.stmt.Stmt.{Stmt}
use Rattle.rg_stmt.specs.declared.stmt.Stmt.TheVariants.{Insert, Update, Delete}
use Rattle.rg_model.specs.Changes.{is_write, is_unit_end}

-- the statement writes this key
abbrev pub names_key : ℕ → Stmt → Bool
names_key key (Insert row) = row.key == key
names_key key (Update row) = row.key == key
names_key key (Delete k) = k == key
names_key key stmt = false

abbrev pub is_write_of : ℕ → Stmt → Reply → Bool
is_write_of key stmt reply = is_write stmt reply && names_key key stmt

-- this session is one of those
abbrev pub is_among : List ℕ → ℕ → Bool
is_among sessions session = list_any (λ number. number == session) sessions

-- By one entry, and by those before it, given the sessions that ended a unit after it.
abbrev pub is_locked_by : (key : ℕ) → (over : List ℕ) → Actor → Event → (List ℕ → Bool) → Bool
is_locked_by key over actor (events.Opened copy rows pages used) before = false
is_locked_by key over (actors.Session session) (events.Said stmt reply) before =
    if is_unit_end stmt reply then before (session.0 ∷ over)
    else (if is_write_of key stmt reply then not (is_among over session.0) else before over)
is_locked_by key over actor event before = before over

-- A key is locked at the end of these entries where a session wrote it whose unit is not over.
-- `over` are the sessions that ended a unit since.
abbrev pub is_locked_in : (key : ℕ) → (over : List ℕ) → List Entry → Bool
is_locked_in key over [] = false
is_locked_in key over (entry ∷ past) =
    is_locked_by key over entry.actor entry.event (λ over. is_locked_in key over past)

abbrev pub is_quiet_by : (key : ℕ) → Actor → Event → List Entry → Bool → Bool
is_quiet_by key actor (events.Started options copy pages) past before =
    not (is_locked_in key [] past)
is_quiet_by key (actors.Session session) (events.Said stmt reply) past before =
    not (is_write_of key stmt reply) && before
is_quiet_by key actor event past before = before

-- a key of the present table is quiet
abbrev pub is_quiet : (key : ℕ) → List Entry → Bool
is_quiet key [] = false
is_quiet key (entry ∷ past) = is_quiet_by key entry.actor entry.event past (is_quiet key past)
