use Rattle.rg_engine.proofs.Layouts.{shown_so}
use Rattle.rg_engine.proofs.engine.Engine.layout.Goals as goal

pub returns-in-Ok-clause-right : goal.returns-in-Ok-clause-right
returns-in-Ok-clause-right c = λ st allowed shows one. shown_so st c.args.copy c.in-Ok.side
    shows.by.up one (c.in-Ok.ensures.right st allowed shows)
