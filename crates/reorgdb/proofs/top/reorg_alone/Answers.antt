use Rattle.reorgdb.proofs.Causes.{completes}
use Rattle.reorgdb.proofs.top.reorg_alone.Goals as goal

pub returns-clause-completes : goal.returns-clause-completes
returns-clause-completes g c =
    let call = c.answer-run.ensures in
    completes _ _ _ _ _ _ _ _ _ call.concludes call.traced call.bounded
