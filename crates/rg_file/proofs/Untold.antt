-- A volume that reports nothing meets what is asked of reports.
use Rattle.std.proofs.Common.{ℕ, List, None, Result, Ok, Err, OnOk, refl}
use Rattle.rg_base.specs.declared.set.Set.{Set}
use Rattle.rg_outside.specs.Calls.{Read, Wrote, Synced, FailedRead, FailedSync, Refused}
use Rattle.rg_outside.specs.Made.{MadeRead, MadeWrite, MadeSync}
use Rattle.rg_outside.specs.declared.source.Failed.{Failed}

pub made_read : (r : Result (Unit {0}) Failed) → MadeRead r None None
made_read (Ok x) = (Read, tt, tt)
made_read (Err e) = (FailedRead, tt, tt)

pub made_write : (r : Result (Unit {0}) Failed) (set : Set) (page : ℕ) (bytes : List ℕ)
    → MadeWrite r None set page bytes None
made_write (Ok x) set page bytes = (Wrote set page bytes, (refl, refl, refl), tt)
made_write (Err e) set page bytes = (Refused, tt, tt)

pub made_sync : (r : Result (Unit {0}) Failed) → MadeSync r None None
made_sync (Ok x) = (Synced, tt, tt)
made_sync (Err e) = (FailedSync, tt, tt)

pub untold : (r : Result (Unit {0}) Failed) → OnOk r (Unit {0})
untold (Ok x) = tt
untold (Err e) = tt
