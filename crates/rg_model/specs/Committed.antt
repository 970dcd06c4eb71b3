-- Committed: the table with each locked key set to the row that its lock keeps. Process death
-- leaves it.
use Rattle.std.specs.Prelude.{ℕ, not, List, [], ◌∷◌, Option, Some, None}
use Rattle.std.specs.FinMap as map
use Rattle.rg_base.specs.declared.lock.Lock.{Lock}
use Rattle.rg_base.specs.declared.row.Row.{Row}
use Rattle.rg_base.specs.declared.session.Session.{Session}
use Rattle.rg_model.specs.Held.{is_others}
use Rattle.rg_model.specs.State.{State, Table, Locks}

abbrev pub set_to : Table → ℕ → Option Row → Table
set_to table key None = map.remove table key
set_to table key (Some row) = map.insert table key row

-- each of these keys has its kept row, or none
abbrev pub put_back : List (ℕ × Lock) → Table → Table
put_back [] table = table
put_back (lock ∷ locks) table = set_to (put_back locks table) lock.0 lock.1.row

-- each locked key has its kept row
abbrev pub committed_table : State → Table
committed_table st = put_back (map.entries st.locks) st.table

-- the locks of the other sessions
abbrev pub locks_without : Session → Locks → Locks
locks_without session locks = map.retain_keys locks (λ key. is_others session (map.get locks key))

-- the locks of the session
abbrev pub own_locks : Session → Locks → Locks
own_locks session locks = map.retain_keys locks (λ key. not (is_others session (map.get locks key)))

-- the same after the locks of a session are dropped
abbrev pub committed_table_with : State → Session → Table
committed_table_with st session =
    committed_table (record st { locks = locks_without session st.locks })
