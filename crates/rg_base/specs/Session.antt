use Rattle.std.specs.Prelude.{◌≤◌}
use Rattle.rg_base.specs.declared.session.Session.{Session}

-- sessions are numbered from 1 to 99 (this profile's choice)
pub record IsSession (session : Session) : Type 0 where
  pub least : 1 ≤ session.0
  pub most : session.0 ≤ 99
