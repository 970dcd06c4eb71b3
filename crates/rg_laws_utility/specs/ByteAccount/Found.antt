-- The rows that statements make, and those that they find.
--
-- 1. A rollback makes the rows that the unit's writes found, the latest first.
-- 2. A write finds the row of its key in the plain table. The end of a unit finds none any more.
use Rattle.std.specs.Prelude.{◌+◌, ℕ, List, [], ◌∷◌, Option, Some, None}
use Rattle.rg_base.specs.declared.row.Row.{Row}
use Rattle.rg_laws_pages.specs.ByteClaims.Weight.{weight}
use Rattle.rg_stmt.specs.declared.stmt.Reply.{Reply}
use Rattle.rg_stmt.specs.declared.stmt.Reply.TheVariants.{Done, Victim}
use Rattle.rg_stmt.specs.declared.stmt.Stmt.{Stmt}
use Rattle.rg_stmt.specs.declared.stmt.Stmt.TheVariants.{Commit, Delete, Insert, Rollback, Update}

-- the rows that a statement makes, of a unit whose writes found these
abbrev pub rows_made : Stmt → Reply → List (Option Row) → List (Option Row)
rows_made (Insert row) Done found = Some row ∷ []
rows_made (Update row) Done found = Some row ∷ []
rows_made (Delete key) Done found = None ∷ []
rows_made Rollback Done found = found
rows_made stmt (Victim owner) found = found
rows_made stmt reply found = []

-- the rows that the unit's writes have found after a statement of this table, the latest first
abbrev pub rows_found :
    (ℕ → Option Row) → Stmt → Reply → List (Option Row) → List (Option Row)
rows_found table (Insert row) Done found = None ∷ found
rows_found table (Update row) Done found = table row.key ∷ found
rows_found table (Delete key) Done found = table key ∷ found
rows_found table Commit Done found = []
rows_found table Rollback Done found = []
rows_found table stmt (Victim owner) found = []
rows_found table stmt reply found = found

abbrev pub weigh_each : List (Option Row) → ℕ
weigh_each [] = 0
weigh_each (row ∷ rows) = weight row + weigh_each rows
