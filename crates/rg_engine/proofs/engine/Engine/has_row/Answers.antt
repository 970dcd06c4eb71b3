use Rattle.std.proofs.Common.{Option, sym, ap}
use Rattle.std.specs.Option.{is_some}
use Rattle.rg_base.specs.declared.row.Row.{Row}
use Rattle.rg_base.specs.declared.session.Session.{Session}
use Rattle.rg_engine.proofs.Statements.{key_none, key_some}
use Rattle.rg_engine.proofs.engine.Engine.has_row.Goals as goal

any : Session
any = record { 0 = 0 }

pub returns-in-None-clause-there : goal.returns-in-None-clause-there
returns-in-None-clause-there c = λ st allowed shows. sym
    (ap (λ (row : Option Row). is_some row)
    (key_none st allowed c.args.self.now shows any c.args.key c.in-None.ensures.none))

pub returns-in-Some-clause-there : goal.returns-in-Some-clause-there
returns-in-Some-clause-there c = λ st allowed shows. sym
    (ap (λ (row : Option Row). is_some row)
    (key_some st allowed c.args.self.now shows any c.args.key c.in-Some.field-0
    c.in-Some.ensures.there).now)
