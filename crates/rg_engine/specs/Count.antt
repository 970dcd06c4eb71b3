-- How many rows there are, and how many are committed.
--
-- 1. The committed rows are the present ones, without those of locked keys, and with those that
--    locks keep.
use Rattle.std.specs.Prelude.{◌<◌, ◌^◌, ℕ, Bool, true, false, List, length, filter, is_some}
use Rattle.std.specs.FinMap as map
use Rattle.rg_base.specs.declared.lock.Lock.{Lock}
use Rattle.rg_model.specs.Committed.{committed_table}
use Rattle.rg_model.specs.State.{State, Table, is_present, row_count}
use Rattle.rg_engine.specs.Shows.{Shows}
use Rattle.rg_engine.specs.declared.engine.Engine.{Engine}

-- one, where there is one
abbrev pub one_of : Bool → ℕ
one_of true = 1
one_of false = 0

-- how many of these locks are of keys with rows
abbrev pub present_in : Table → List (ℕ × Lock) → ℕ
present_in table locks = length (filter (λ lock. is_present table lock.0) locks)

-- how many of these locks keep a row
abbrev pub kept_in : List (ℕ × Lock) → ℕ
kept_in locks = length (filter (λ lock. is_some lock.1.row) locks)

-- how many rows have locked keys
abbrev pub locked_present : State → ℕ
locked_present st = present_in st.table (map.entries st.locks)

-- the engine shows some state whose committed rows have a number of 64 bits
pub record IsShownFew (d : Engine) : Type 0 where
  pub state : State
  pub allowed : ℕ
  pub shows : Shows state allowed d
  pub few : row_count (committed_table state) < 2 ^ 64
