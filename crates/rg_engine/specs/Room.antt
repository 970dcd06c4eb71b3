-- When a write is FULL, and when it is LOGFULL.
--
-- 1. A put or a change is FULL exactly where there is no plan of it: no page admits the area that
--    the row needs, and the copy has as many pages as it may have. What it needs is its length.
-- 2. A write is planned for its own unit and for all open ones, whose areas are not freed. A unit
--    that writes for the first time has the next number.
-- 3. A write is LOGFULL exactly where its records, the reserve for its undo and, with the first
--    write of a unit, for the record of its end are more bytes than the log has left.
use Rattle.std.specs.Prelude.{◌≡◌, ◌≤◌, ◌<◌, ◌+◌, ℕ, Bool, true, false, List, ◌∷◌, Option, Some}
use Rattle.std.specs.Prelude.{None, is_some}
use Rattle.rg_base.specs.RowBytes.{row_size}
use Rattle.rg_base.specs.declared.place.Place.{Place}
use Rattle.rg_base.specs.declared.row.Row.{Row}
use Rattle.rg_home.specs.Pages.{slot_of}
use Rattle.rg_home.specs.Plan.{new_area, planned_change, planned_drop, planned_put}
use Rattle.rg_home.specs.Rows.{row_at}
use Rattle.rg_home.specs.Slot.{Slot}
use Rattle.rg_home.specs.declared.plan.Plan.{Plan}
use Rattle.rg_stmt.specs.declared.stmt.Reply.{Reply}
use Rattle.rg_log.specs.Kept.{Listed, left_of}
use Rattle.rg_stmt.specs.declared.stmt.Reply.TheVariants.{Done, Full, LogFull}
use Rattle.rg_stmt.specs.declared.stmt.Stmt.{Stmt}
use Rattle.rg_stmt.specs.declared.stmt.Stmt.TheVariants.{Insert, Update, Delete}
use Rattle.rg_engine.specs.Bytes.{most_needed, needed}
use Rattle.rg_engine.specs.Units.{trans_of, unit_at}
use Rattle.rg_engine.specs.declared.units.OpenUnit.{OpenUnit}

-- what a write is planned over: the pages, the open unit of each session, the greatest number that
-- a unit has had, how many pages there may be, and the log
pub record Ground : Type 0 where
  pub pages : List (List Slot)
  pub units : List (Option OpenUnit)
  pub top : ℕ
  pub capacity : ℕ
  pub log : Listed

-- the number of a unit that is to write, or the next one
abbrev pub number_in : Option OpenUnit → (top : ℕ) → ℕ
number_in None top = top + 1
number_in (Some unit) top = unit.tran.0

-- the units whose areas stay, where the session with this number writes
abbrev pub units_that_stay : Ground → (session : ℕ) → List ℕ
units_that_stay g session = number_in (unit_at g.units session) g.top ∷ trans_of g.units

-- the plan of a new row of b bytes
abbrev pub plan_to_put : Ground → (session b : ℕ) → Option Plan
plan_to_put g session b =
    planned_put (units_that_stay g session) b g.pages
    (new_area (units_that_stay g session) b g.capacity g.pages)

-- the plan of a row of b bytes in the place of the one whose home this is
abbrev pub plan_to_change : Ground → (session b : ℕ) → Place → Option Plan
plan_to_change g session b home =
    planned_change (units_that_stay g session) b g.capacity g.pages home

-- the row of a key lies there
pub record IsHomeOfKey (g : Ground) (key : ℕ) (home : Place) : Type 0 where
  pub row : Row
  pub there : row_at (slot_of g.pages) home ≡ Some row
  pub key_is : row.key ≡ key

-- whether there is a plan of the write of a statement, if it puts or changes a row
abbrev pub HasPlan : (has : Bool) → Ground → (session : ℕ) → Stmt → Type 0
HasPlan has g session (Insert row) = is_some (plan_to_put g session (row_size row)) ≡ has
HasPlan has g session (Update row) =
    (home : Place) → IsHomeOfKey g row.key home
    → is_some (plan_to_change g session (row_size row) home) ≡ has
HasPlan has g session stmt = Unit {0}

-- the bytes that a statement writes
abbrev pub bytes_written : Stmt → ℕ
bytes_written (Insert row) = row_size row
bytes_written (Update row) = row_size row
bytes_written stmt = 0

-- what the write of a statement needs of the log, where it has a plan
abbrev pub IfNeeds : Ground → (session : ℕ) → Stmt → (ℕ → Type 0) → Type 0
IfNeeds g session (Insert row) P =
    (plan : Plan) → Some plan ≡ plan_to_put g session (row_size row)
    → P (needed (unit_at g.units session) plan (Some row))
IfNeeds g session (Update row) P =
    (home : Place) → IsHomeOfKey g row.key home → (plan : Plan)
    → Some plan ≡ plan_to_change g session (row_size row) home
    → P (needed (unit_at g.units session) plan (Some row))
IfNeeds g session (Delete key) P =
    (home : Place) → IsHomeOfKey g key home
    → P (needed (unit_at g.units session)
    (planned_drop g.pages home (slot_of g.pages home)) None)
IfNeeds g session stmt P = Unit {0}

-- LOGFULL stands where the log has less left than the write needs, and OK where it has as much
abbrev pub SaysLog : Ground → (session : ℕ) → Stmt → Reply → Type 0
SaysLog g session stmt (LogFull need left) =
    (left ≡ left_of g.log) × (left < need) × (need ≤ most_needed)
    × IfNeeds g session stmt (λ n. need ≡ n)
SaysLog g session stmt Done = IfNeeds g session stmt (λ n. n ≤ left_of g.log)
SaysLog g session stmt reply = Unit {0}

-- FULL stands where there is no plan, and OK and LOGFULL where there is one
abbrev pub SaysRoom : Ground → (session : ℕ) → Stmt → Reply → Type 0
SaysRoom g session stmt (Full need) = (need ≡ bytes_written stmt) × HasPlan false g session stmt
SaysRoom g session stmt (LogFull need left) = HasPlan true g session stmt
SaysRoom g session stmt Done = HasPlan true g session stmt
SaysRoom g session stmt reply = Unit {0}
