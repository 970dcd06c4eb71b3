-- The first key of a range that another session has locked.
use Rattle.std.specs.Prelude.{◌≡◌, ℕ, ◌≤◌, ◌<◌, Option, Some, None}
use Rattle.std.specs.FinMap as map
use Rattle.rg_base.specs.declared.session.Session.{Session}
use Rattle.rg_model.specs.Held.{other_owner}
use Rattle.rg_model.specs.State.{Locks}

-- no other session has locked a key from `lo` to `hi`, both included
abbrev pub IsFreeUpTo : Locks → Session → ℕ → ℕ → Type 0
IsFreeUpTo locks session lo hi =
    (key : ℕ) → lo ≤ key → key ≤ hi → other_owner session (map.get locks key) ≡ None

-- no other session has locked a key from `lo` to `end`, which is left out
abbrev pub IsFreeBefore : Locks → Session → ℕ → ℕ → Type 0
IsFreeBefore locks session lo end =
    (key : ℕ) → lo ≤ key → key < end → other_owner session (map.get locks key) ≡ None

-- the least key from `lo` to `hi` that another session has locked, with that session, or none
abbrev pub IsFirstHeld : Locks → Session → ℕ → ℕ → Option (ℕ × Session) → Type 0
IsFirstHeld locks session lo hi None = IsFreeUpTo locks session lo hi
IsFirstHeld locks session lo hi (Some held) =
    (lo ≤ held.0) × (held.0 ≤ hi) × (other_owner session (map.get locks held.0) ≡ Some held.1)
    × IsFreeBefore locks session lo held.0
