-- Rows by place and rows by key are one table.
--
-- 1. The row at a home is the row of its key, the row of a key lies at some home, and no two homes
--    have rows of one key. This is said of the rows that are there now; of the committed rows it
--    follows.
use Rattle.std.specs.Prelude.{◌≡◌, ℕ, Option, Some}
use Rattle.rg_base.specs.declared.place.Place.{Place}
use Rattle.rg_base.specs.declared.row.Row.{Row as TableRow}

-- each row lies under its own key, and no key has two homes
pub record IsTable (homes : Place → Option TableRow) (keys : ℕ → Option TableRow) : Type 0 where
  pub there : (p : Place) (row : TableRow) → homes p ≡ Some row → keys row.key ≡ Some row
  pub placed :
      (k : ℕ) (row : TableRow) → keys k ≡ Some row
      → (row.key ≡ k) × (p : Place) × (homes p ≡ Some row)
  pub once :
      (p q : Place) (row other : TableRow) → homes p ≡ Some row → homes q ≡ Some other
      → row.key ≡ other.key → p ≡ q
