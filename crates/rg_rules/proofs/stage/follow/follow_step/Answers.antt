use Rattle.std.proofs.Common.{sym}
use Rattle.rg_rules.specs.Stage.NumbersOf.{numbers_of}
use Rattle.rg_rules.proofs.StageLemmas.Asked.{wait_is}
use Rattle.rg_rules.proofs.stage.follow.follow_step.Goals as goal

pub returns-in-Wait-clause-followed : goal.returns-in-Wait-clause-followed
returns-in-Wait-clause-followed c covered turn e =
    c.wait.ensures.followed covered turn
    (wait_is _ c.in-Wait.asked c.args.all covered c.args.answer.now (numbers_of c.args.stage.now)
    c.args.stage.now.drain c.args.event.now turn
    (sym c.in-Wait.ensures) e)
