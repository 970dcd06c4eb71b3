-- What releasing a lock takes off.
use Rattle.std.specs.Prelude.{◌≡◌, ℕ, true, Option, Some, None}
use Rattle.std.specs.FinMap as map
use Rattle.rg_base.specs.declared.row.Row.{Row}
use Rattle.rg_base.specs.declared.session.Session.{Session}
use Rattle.rg_model.specs.Held.{is_others}
use Rattle.rg_model.specs.State.{Locks}

-- the session has no lock
abbrev pub HasNone : Session → Locks → Type 0
HasNone session locks = (key : ℕ) → is_others session (map.get locks key) ≡ true

-- one lock of the session is taken off, or it has none
abbrev pub Releases : Session → Locks → Locks → Option (ℕ × Option Row) → Type 0
Releases session old new None = (new ≡ old) × HasNone session old
Releases session old new (Some released) =
    (map.get old released.0 ≡ Some (record { owner = session; row = released.1 }))
    × (new ≡ map.remove old released.0)
