use Rattle.std.proofs.Common.{◌∙◌, sym}
use Rattle.std.proofs.lemmas.Result.{IfOk-weaker}
use Rattle.rg_base.specs.declared.session.Session.{Session}
use Rattle.rg_engine.proofs.Statements.{key_none, key_some}
use Rattle.rg_engine.proofs.engine.Engine.row_of.Goals as goal

any : Session
any = record { 0 = 0 }

pub returns-in_default-clause-row : goal.returns-in_default-clause-row
returns-in_default-clause-row c = λ st allowed shows. key_none st allowed c.args.self.now shows any
    c.args.key c.in_default.ensures.none

pub returns-clause-row : goal.returns-clause-row
returns-clause-row c =
    IfOk-weaker c.row_at.result _ _
    (λ row is st allowed shows.
    let at = key_some st allowed c.args.self.now shows any c.args.key c.in-Some.home
    c.in-Some.ensures.there in
    at.now ∙ sym (is ∙ at.there))
    c.row_at.ensures.row
