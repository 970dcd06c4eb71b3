-- The sessions that have claims.
use Rattle.std.specs.Prelude.{◌≡◌, true}
use Rattle.std.specs.FinMap as map
use Rattle.rg_base.specs.Session.{IsSession}
use Rattle.rg_base.specs.declared.session.Session.{Session}
use Rattle.rg_model.specs.State.{Claims}

-- only sessions have claims
abbrev pub HasSessions : Claims → Type 0
HasSessions claims =
    (session : Session) → map.contains_key claims session.0 ≡ true → IsSession session
