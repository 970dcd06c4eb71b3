-- What a statement that is answered OK leaves of what writes are planned over.
--
-- 1. A write has a plan, at the home of its key's row where it changes or drops one. It leaves
--    the records of its plan, and the pages as these make them. Its session's unit
--    has one write more, or begins with it. Its bytes are taken, and those for its undo reserved.
-- 2. A COMMIT leaves the Commit record of its unit, all records forced, and its session without a
--    unit. Where the session has none, all is as it was.
-- 3. A ROLLBACK leaves an Undo record for each Change of its unit that is not undone, the latest
--    first, and then the unit's RolledBack. The pages are those that the undos leave. Its session
--    has no unit then. Where it had none, all is as it was.
-- 4. A statement that reads leaves all as it was.
use Rattle.std.specs.Prelude.{◌≡◌, ◌+◌, nat_le, ℕ, List, [], ◌∷◌, ◌++◌, Option, Some, None, length}
use Rattle.std.specs.Prelude.{if◌then◌else◌, slice_set}
use Rattle.rg_base.specs.RowBytes.{row_size}
use Rattle.rg_base.specs.declared.place.Place.{Place}
use Rattle.rg_base.specs.declared.row.Row.{Row}
use Rattle.rg_check.specs.OpenUnits.Unended.{left_of}
use Rattle.rg_home.specs.Pages.{applied, row_or_empty, slot_of}
use Rattle.rg_home.specs.Plan.{planned_drop}
use Rattle.rg_home.specs.Slot.{Slot}
use Rattle.rg_home.specs.Undo.{undone}
use Rattle.rg_home.specs.declared.plan.Plan.{Plan}
use Rattle.rg_record.specs.declared.record.Record.{Record}
use Rattle.rg_space.specs.Carries.{cleared}
use Rattle.rg_stmt.specs.declared.stmt.Reply.{Reply}
use Rattle.rg_stmt.specs.declared.stmt.Reply.TheVariants.{Done}
use Rattle.rg_stmt.specs.declared.stmt.Stmt.{Stmt}
use Rattle.rg_stmt.specs.declared.stmt.Stmt.TheVariants.{Insert, Update, Delete, Commit, Rollback}
use Rattle.rg_undo.specs.Undoing.{undo_record, written_of}
use Rattle.rg_engine.specs.Bytes.{needed, plan_bytes}
use Rattle.rg_engine.specs.Ended.{records_committed, rolled_record}
use Rattle.rg_engine.specs.Room.{Ground, IsHomeOfKey, plan_to_change, plan_to_put}
use Rattle.rg_engine.specs.Units.{new_unit, owed_to, unit_at}
use Rattle.rg_engine.specs.Wrote.{records_wrote, unit_wrote}
use Rattle.rg_engine.specs.declared.units.OpenUnit.{OpenUnit}

-- the unit that is to write: the one that is open, or a new one of the next number
abbrev pub unit_to_write : Option OpenUnit → (top : ℕ) → OpenUnit
unit_to_write None top = new_unit (top + 1)
unit_to_write (Some unit) top = unit

-- that of a session
abbrev pub writer_in : Ground → (session : ℕ) → OpenUnit
writer_in g session = unit_to_write (unit_at g.units session) g.top

-- a session wrote as planned: then this row lies at the home of the plan, or none
pub record LeavesPlan
    (g : Ground) (session : ℕ) (plan : Plan) (after : Option Row) (h : Ground) : Type 0 where
  pub records : h.log.records ≡ records_wrote g.log.records (writer_in g session) plan after
  pub pages :
      h.pages
      ≡ applied (writer_in g session).tran.0 (row_or_empty after) (cleared 0 g.pages plan)
      plan.parts
  pub units :
      h.units
      ≡ slice_set g.units session (Some (unit_wrote g.log.records (writer_in g session) plan))
  pub own : unit_at h.units session ≡ Some (unit_wrote g.log.records (writer_in g session) plan)
  pub top :
      h.top
      ≡ (if nat_le (writer_in g session).tran.0 g.top then g.top
      else (writer_in g session).tran.0)
  pub capacity : h.capacity ≡ g.capacity
  pub forced : h.log.forced ≡ g.log.forced
  pub reserved :
      h.log.reserved + plan_bytes plan after
      ≡ g.log.reserved + needed (unit_at g.units session) plan after
  pub log_pages : h.log.pages ≡ g.log.pages

-- a session has no unit any more: other units are as they were, and what was reserved for its own
-- is not
pub record LeavesEnd (g : Ground) (session : ℕ) (h : Ground) : Type 0 where
  pub units : h.units ≡ slice_set g.units session None
  pub own : unit_at h.units session ≡ None
  pub top : h.top ≡ g.top
  pub capacity : h.capacity ≡ g.capacity
  pub reserved : h.log.reserved + owed_to (unit_at g.units session) ≡ g.log.reserved
  pub log_pages : h.log.pages ≡ g.log.pages

-- the open unit of a session committed
pub record LeavesCommit (g : Ground) (session : ℕ) (unit : OpenUnit) (h : Ground) : Type 0 where
  pub records : h.log.records ≡ records_committed g.log.records (Some unit)
  pub forced : h.log.forced ≡ length h.log.records
  pub pages : h.pages ≡ g.pages
  pub ends : LeavesEnd g session h

-- The records that undo these Changes of a unit, the latest first, and end it. The first stands at
-- `position`, after the unit's record at `back`, and undoes a Change of these pages.
abbrev pub records_undoing :
    OpenUnit → (position back : ℕ) → List (List Slot) → List Record → List Record
records_undoing unit position back pages [] = rolled_record position back unit ∷ []
records_undoing unit position back pages (change ∷ changes) =
    undo_record position back pages change
    ∷ records_undoing unit (position + 1) position (undone pages (written_of change)) changes

-- the pages once these Changes are undone, the latest first
abbrev pub pages_undone : List (List Slot) → List Record → List (List Slot)
pages_undone pages [] = pages
pages_undone pages (change ∷ changes) = pages_undone (undone pages (written_of change)) changes

-- the open unit of a session was undone
pub record LeavesUndone (g : Ground) (session : ℕ) (unit : OpenUnit) (h : Ground) : Type 0 where
  pub records :
      h.log.records
      ≡ g.log.records
      ++ records_undoing unit (length g.log.records + 1) unit.last.0 g.pages
      (left_of unit.tran.0 g.log.records)
  pub pages : h.pages ≡ pages_undone g.pages (left_of unit.tran.0 g.log.records)
  pub forced : h.log.forced ≡ g.log.forced
  pub count : length (left_of unit.tran.0 g.log.records) ≡ unit.writes
  pub ends : LeavesEnd g session h

-- what the end of a unit leaves that commits, where there is one
abbrev pub AfterCommit : Ground → (session : ℕ) → Option OpenUnit → Ground → Type 0
AfterCommit g session None h = h ≡ g
AfterCommit g session (Some unit) h = LeavesCommit g session unit h

-- the same of a unit that is undone
abbrev pub AfterRollback : Ground → (session : ℕ) → Option OpenUnit → Ground → Type 0
AfterRollback g session None h = h ≡ g
AfterRollback g session (Some unit) h = LeavesUndone g session unit h

-- what a statement that is answered OK leaves
abbrev pub Effect : Ground → (session : ℕ) → Stmt → Ground → Type 0
Effect g session (Insert row) h =
    (plan : Plan) × (Some plan ≡ plan_to_put g session (row_size row))
    × LeavesPlan g session plan (Some row) h
Effect g session (Update row) h =
    (home : Place) × IsHomeOfKey g row.key home × (plan : Plan)
    × (Some plan ≡ plan_to_change g session (row_size row) home)
    × LeavesPlan g session plan (Some row) h
Effect g session (Delete key) h =
    (home : Place) × IsHomeOfKey g key home
    × LeavesPlan g session (planned_drop g.pages home (slot_of g.pages home)) None h
Effect g session Commit h = AfterCommit g session (unit_at g.units session) h
Effect g session Rollback h = AfterRollback g session (unit_at g.units session) h
Effect g session stmt h = h ≡ g

-- a statement leaves this where it is answered OK
abbrev pub IfDoneEffect : Ground → (session : ℕ) → Stmt → Reply → Ground → Type 0
IfDoneEffect g session stmt Done h = Effect g session stmt h
IfDoneEffect g session stmt reply h = Unit {0}
