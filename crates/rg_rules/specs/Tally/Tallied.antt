-- What the judge keeps of the entries so far, and what each entry makes of it.
-- (1) A unit that has written has a number: how many writes were made before its first.
-- (2) Each key that was written keeps its last writer: the session, and the unit's number.
-- (3) A key is locked while the writer's unit is open. It is not quiet where its writer's unit was
--     open when the utility started, or began to write since.
use Rattle.std.specs.Prelude.{◌≡◌, ℕ, ◌+◌, ◌≤◌, ◌<◌, ◌==◌, ◌||◌, ◌&&◌, Bool, true, false, List}
use Rattle.std.specs.Prelude.{Option, Some, None, if◌then◌else◌, nat_le, not, ⊤}
use Rattle.std.specs.FinMap as map
use Rattle.std.specs.Option.{unwrap_or}
use Rattle.std.specs.Ordering.{nat_cmp}
use Rattle.rg_base.specs.declared.session.Session.{Session}
use Rattle.rg_stmt.specs.declared.event.Actor.{Actor}
use Rattle.rg_stmt.specs.declared.event.Actor.TheVariants as actors
use Rattle.rg_stmt.specs.declared.event.Entry.{Entry}
use Rattle.rg_stmt.specs.declared.event.Event.{Event}
use Rattle.rg_stmt.specs.declared.event.Event.TheVariants as events
use Rattle.rg_stmt.specs.declared.stmt.Reply.{Reply}
use Rattle.rg_stmt.specs.declared.stmt.Stmt.{Stmt}
use Rattle.rg_stmt.specs.declared.stmt.Stmt.TheVariants.{Insert, Update, Delete, Select, Scan, Find}
use Rattle.rg_stmt.specs.declared.stmt.Stmt.TheVariants.{Commit, Rollback}
use Rattle.rg_model.specs.Changes.{is_write, is_rollback, is_unit_end, unit_writes, changes}
use Rattle.rg_model.specs.Quiet.{is_among, is_locked_in, is_quiet}
use Rattle.rg_rules.specs.declared.tally.tally.Tally.{Tally}
use Rattle.rg_rules.specs.declared.tally.tally.Writer.{Writer}

-- the key that a statement writes
abbrev pub key_written : Stmt → ℕ
key_written (Insert row) = row.key
key_written (Update row) = row.key
key_written (Delete key) = key
key_written (Select key) = 0
key_written (Scan lo hi) = 0
key_written (Find cat) = 0
key_written Commit = 0
key_written Rollback = 0

-- the writes of a session's open unit
abbrev pub writes_of : Tally → ℕ → ℕ
writes_of tally session = unwrap_or (map.get tally.writes session) 0

-- the number of a session's unit, which a write of its begins where none is open
abbrev pub unit_of : Tally → ℕ → ℕ
unit_of tally session = unwrap_or (map.get tally.units session) tally.count

-- a write is a change, and its key has a writer
abbrev pub tally_write : Tally → Session → ℕ → Tally
tally_write tally session key = record tally {
  changes = tally.changes + 1;
  count = tally.count + 1;
  writes = map.insert tally.writes session.0 (writes_of tally session.0 + 1);
  units = map.insert tally.units session.0 (unit_of tally session.0);
  writers =
      map.insert tally.writers key
      (record { session = session.0; unit = unit_of tally session.0 });
}

-- the session has no open unit
abbrev pub tally_end : Tally → Session → Tally
tally_end tally session = record tally {
  writes = map.remove tally.writes session.0;
  units = map.remove tally.units session.0;
}

-- a rollback is as many changes as its unit has writes
abbrev pub tally_rollback : Tally → Session → Tally
tally_rollback tally session =
    record tally { changes = tally.changes + writes_of tally session.0 }

abbrev pub tally_said : Tally → Session → Stmt → Reply → Tally
tally_said tally session stmt reply =
    if is_write stmt reply then tally_write tally session (key_written stmt)
    else (if is_rollback stmt reply then tally_end (tally_rollback tally session) session
    else (if is_unit_end stmt reply then tally_end tally session
    else tally))

-- one entry more
abbrev pub tally_after : Tally → Actor → Event → Tally
tally_after tally actor (events.Opened copy rows pages used) =
    record tally { writes = map.empty; units = map.empty }
tally_after tally actor (events.Started options copy pages) =
    record tally { changes = 0; started = true; first = tally.count; held = tally.units }
tally_after tally (actors.Session session) (events.Said stmt reply) =
    tally_said tally session stmt reply
tally_after tally actor event = tally

-- the unit has this number
abbrev pub is_unit : Option ℕ → ℕ → Bool
is_unit None number = false
is_unit (Some unit) number = unit == number

-- the unit of a key's last writer is open, and its session is none of those
abbrev pub is_open : List ℕ → map.FinMap nat_cmp ℕ → Option Writer → Bool
is_open over units None = false
is_open over units (Some writer) =
    not (is_among over writer.session) && is_unit (map.get units writer.session) writer.unit

-- a key's last writer wrote it since the utility started, or held it then
abbrev pub is_stirred : Tally → Option Writer → Bool
is_stirred tally None = false
is_stirred tally (Some writer) =
    nat_le tally.first writer.unit || is_unit (map.get tally.held writer.session) writer.unit

-- by what is kept, the key is quiet
abbrev pub tally_quiet : Tally → ℕ → Bool
tally_quiet tally key = tally.started && not (is_stirred tally (map.get tally.writers key))

-- units are numbered by the writes before them
abbrev pub IsNumbered : ℕ → Option ℕ → Type 0
IsNumbered count None = ⊤
IsNumbered count (Some unit) = unit < count

abbrev pub unit_written : Option Writer → Option ℕ
unit_written None = None
unit_written (Some writer) = Some writer.unit

-- an open unit that began before the utility started was open then
abbrev pub is_kept : ℕ → Option ℕ → Option ℕ → Bool
is_kept first held None = true
is_kept first held (Some unit) = nat_le first unit || is_unit held unit

-- what is kept is what the entries say, which stand with the newest first
pub record IsTallied (past : List Entry) (tally : Tally) : Type 0 where
  pub changes : tally.changes ≡ changes past
  pub writes : (session : ℕ) → writes_of tally session ≡ unit_writes session past
  pub writers :
      (key : ℕ) (over : List ℕ) → is_open over tally.units (map.get tally.writers key)
      ≡ is_locked_in key over past
  pub quiet : (key : ℕ) → tally_quiet tally key ≡ is_quiet key past
  pub units : (session : ℕ) → IsNumbered tally.count (map.get tally.units session)
  pub written : (key : ℕ) → IsNumbered tally.count (unit_written (map.get tally.writers key))
  pub first : tally.first ≤ tally.count
  pub kept :
      (session : ℕ)
      → is_kept tally.first (map.get tally.held session) (map.get tally.units session) ≡ true
