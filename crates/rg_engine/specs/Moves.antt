-- How a statement moves the rows of an engine.
--
-- 1. It does by the changes of the records that it appends, one after the other, at positions above
--    those before.
-- 2. None of them has a quiet key, where no locked key is quiet, and not the one that the statement
--    writes.
-- 3. Their rows are the one that the statement gives, or none where it takes one away; or those
--    that the unit's writes found, the latest first, where they are undone.
-- 4. They are as many as the statement makes. The writes of open units are counted on as the
--    statement's answer says.
-- 5. The writes of the session's unit have found the row of the table that the statement names,
--    too, or none where the unit has ended. Those of other units have found what they had.
use Rattle.std.specs.Prelude.{◌≡◌, ◌++◌, ℕ, true, false, List, [], ◌∷◌, Option, Some, None, length}
use Rattle.std.specs.FinMap as fin
use Rattle.std.specs.List.{AllByRecursion}
use Rattle.rg_laws_utility.specs.ByteAccount.Found.{rows_found, rows_made}
use Rattle.rg_base.specs.declared.lock.Lock.{Lock}
use Rattle.rg_base.specs.declared.session.Session.{Session}
use Rattle.rg_base.specs.declared.row.Row.{Row}
use Rattle.rg_laws_log.specs.LogState.Write.{Write}
use Rattle.rg_laws_utility.specs.RecordChanges.Changed.{changes_in, rows_after}
use Rattle.rg_home.specs.Pages.{slot_of}
use Rattle.rg_home.specs.Rows.{row_at}
use Rattle.rg_home.specs.Table.{IsTable}
use Rattle.rg_model.specs.Changes.{is_write, writes_after}
use Rattle.rg_model.specs.Quiet.{is_quiet, names_key}
use Rattle.rg_record.specs.declared.record.Record.{Record}
use Rattle.rg_feed.specs.SentItems.Keeps.{AreAbove, IsLoud, MovesRows}
use Rattle.rg_stmt.specs.declared.event.Entry.{Entry}
use Rattle.rg_stmt.specs.declared.stmt.Reply.{Reply}
use Rattle.rg_stmt.specs.declared.stmt.Stmt.{Stmt}
use Rattle.rg_rules.specs.Tally.Changed.{made_by}
use Rattle.rg_engine.specs.Engine.{slots_in}
use Rattle.rg_engine.specs.Units.{unit_at, writes_in}
use Rattle.rg_engine.specs.Walks.{Walks}
use Rattle.rg_engine.specs.declared.engine.Engine.{Engine}
use Rattle.rg_engine.specs.declared.units.OpenUnit.{OpenUnit}

-- no locked key is quiet after these entries
abbrev pub LocksAreLoud : Engine → List Entry → Type 0
LocksAreLoud d past =
    (key : ℕ) (lock : Lock) → fin.get d.locks key ≡ Some lock → is_quiet key past ≡ false

-- nor is the key that the statement writes, if it does
abbrev pub WriteIsLoud : Stmt → Reply → List Entry → Type 0
WriteIsLoud stmt reply past =
    is_write stmt reply ≡ true → (key : ℕ) → names_key key stmt ≡ true
    → is_quiet key past ≡ false

-- the rows that writes found
abbrev pub rows_before : List Write → List (Option Row)
rows_before [] = []
rows_before (w ∷ ws) = w.written.before ∷ rows_before ws

-- these are the writes of a unit, the latest first
abbrev pub AreOwn : List Record → Option OpenUnit → List Write → Type 0
AreOwn records None ws = ws ≡ []
AreOwn records (Some unit) ws =
    Walks records unit.tran.0 unit.last.0 ws × (length ws ≡ unit.writes)

-- these writes of a unit have found what some writes of it before have, changed so
abbrev pub HaveFound :
    List Record → Option OpenUnit → (List (Option Row) → List (Option Row)) → List Write → Type 0
HaveFound records unit changed vs =
    (ws : List Write) × AreOwn records unit ws × (rows_before vs ≡ changed (rows_before ws))

pub record Moves (old : Engine) (session : Session) (stmt : Stmt) (reply : Reply) (new : Engine)
    : Type 0 where
  pub more : List Record
  pub records : new.log.records ≡ old.log.records ++ more
  pub rows :
      MovesRows (changes_in more) (row_at (slot_of (slots_in old)))
      (row_at (slot_of (slots_in new)))
  pub above :
      AreAbove (length old.log.records) (length new.log.records) (changes_in more)
  pub loud :
      (past : List Entry) → LocksAreLoud old past → WriteIsLoud stmt reply past
      → AllByRecursion (IsLoud past) (changes_in more)
  pub told :
      (ws : List Write) → AreOwn old.log.records (unit_at old.units session.0) ws
      → rows_after (changes_in more) ≡ rows_made stmt reply (rows_before ws)
  pub counted :
      length (changes_in more) ≡ made_by stmt reply (writes_in (unit_at old.units session.0))
  pub own :
      writes_in (unit_at new.units session.0)
      ≡ writes_after stmt reply (writes_in (unit_at old.units session.0))
  pub others :
      (n : ℕ) → (n ≡ session.0 → ⊥)
      → writes_in (unit_at new.units n) ≡ writes_in (unit_at old.units n)
  pub finds :
      (t : ℕ → Option Row) → IsTable (row_at (slot_of (slots_in old))) t → (vs : List Write)
      → AreOwn new.log.records (unit_at new.units session.0) vs
      → HaveFound old.log.records (unit_at old.units session.0) (rows_found t stmt reply) vs
  pub keeps :
      (n : ℕ) → (n ≡ session.0 → ⊥) → (vs : List Write)
      → AreOwn new.log.records (unit_at new.units n) vs
      → HaveFound old.log.records (unit_at old.units n) (λ found. found) vs
