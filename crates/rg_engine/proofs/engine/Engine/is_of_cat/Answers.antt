use Rattle.rg_base.specs.declared.session.Session.{Session}
use Rattle.rg_engine.proofs.ReadsGo.{cat_none, cat_some}
use Rattle.rg_engine.proofs.engine.Engine.is_of_cat.Goals as goal

any : Session
any = record { 0 = 0 }

pub returns-in-None : goal.returns-in-None
returns-in-None c = λ st allowed shows. cat_none st allowed c.args.self.now shows any c.args.key
    c.args.cat c.in-None.ensures.none

pub returns-in-Some : goal.returns-in-Some
returns-in-Some c = λ st allowed shows. cat_some st allowed c.args.self.now shows any c.args.key
    c.args.cat c.in-Some.home c.has_cat.result c.in-Some.ensures.there c.has_cat.ensures
