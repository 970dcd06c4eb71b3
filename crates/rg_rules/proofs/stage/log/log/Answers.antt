use Rattle.rg_rules.specs.Stage.NumbersOf.{numbers_of}
use Rattle.rg_rules.proofs.StageLemmas.Turns.{log_followed}
use Rattle.rg_rules.proofs.stage.log.log.Goals as goal

pub returns-in-Log-clause-followed : goal.returns-in-Log-clause-followed
returns-in-Log-clause-followed c turn e =
    log_followed turn c.args.all c.args.answer.now (numbers_of c.args.stage.now)
    c.args.stage.now.drain c.in-Log.iteration c.in-Log.took c.in-Log.left c.in-Log.verdict
    c.is_slow-slow.result c.from.result c.obey_verdict.result c.is_slow-slow.ensures
    c.from.ensures c.obey_verdict.ensures.followed (rw c.in-Log.is at e)
