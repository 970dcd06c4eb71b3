-- The changes since a utility started, as a count.
-- (1) It is what the definition of changes computes of the entries, and so are the writes of each
--     session's open unit.
use Rattle.std.specs.Prelude.{◌≡◌, ◌+◌, ◌<◌, ◌^◌, ℕ, List, slice_index_or, replicate, if◌then◌else◌}
use Rattle.rg_model.specs.Changes.{changes, is_rollback, is_write, unit_writes}
use Rattle.rg_stmt.specs.declared.event.Entry.{Entry}
use Rattle.rg_stmt.specs.declared.stmt.Reply.{Reply}
use Rattle.rg_stmt.specs.declared.stmt.Stmt.{Stmt}

-- the changes, and the writes of the open unit of each session, by its number
pub record ChangeCount : Type 0 where
  pub since : ℕ
  pub writes : List ℕ

abbrev pub no_changes : ChangeCount
no_changes = record { since = 0; writes = replicate 256 0 }

abbrev pub writes_at : List ℕ → ℕ → ℕ
writes_at writes session = slice_index_or writes session 0

-- the changes that a statement makes, of a unit with so many writes
abbrev pub made_by : Stmt → Reply → (writes : ℕ) → ℕ
made_by stmt reply writes =
    if is_write stmt reply then 1 else (if is_rollback stmt reply then writes else 0)

-- the counts are those of the entries, which stand with the newest first
pub record IsCounted (past : List Entry) (c : ChangeCount) : Type 0 where
  pub since : c.since ≡ changes past
  pub writes :
      (session : ℕ) → session < 256 → writes_at c.writes session ≡ unit_writes session past

-- there is room for a statement of this session
abbrev pub HasRoom : ChangeCount → (session : ℕ) → Type 0
HasRoom c session = c.since + writes_at c.writes session + 1 < 2 ^ 64
