-- What locking a key answers, and what it leaves.
use Rattle.std.specs.Prelude.{◌≡◌, ℕ, Option, Some, None, if◌then◌else◌}
use Rattle.std.specs.declared.result.Result.{Result}
use Rattle.std.specs.declared.result.Result.TheVariants.{Ok, Err}
use Rattle.std.specs.FinMap as map
use Rattle.rg_base.specs.declared.lock.Lock.{Lock}
use Rattle.rg_base.specs.declared.row.Row.{Row}
use Rattle.rg_base.specs.declared.session.Session.{Session}
use Rattle.rg_lock.specs.declared.locks.LockFault.{LockFault}
use Rattle.rg_lock.specs.declared.locks.LockFault.TheVariants.{Held, NoMemory}
use Rattle.rg_model.specs.Held.{other_owner}
use Rattle.rg_model.specs.State.{Locks}

-- a locked key keeps its lock; any other gets one of the session, which keeps the row
abbrev pub take_key : Locks → Session → ℕ → Option Row → Locks
take_key locks session key row =
    if map.contains_key locks key
    then locks
    else map.insert locks key (record { owner = session; row = row })

-- the key is refused if and only if another session holds it, with that session; only a free key
-- can want memory
abbrev pub TakeResult : Session → Option Lock → Result Unit LockFault → Type 0
TakeResult session found (Ok _) = other_owner session found ≡ None
TakeResult session found (Err (Held owner)) = other_owner session found ≡ Some owner
TakeResult session found (Err NoMemory) = found ≡ None
