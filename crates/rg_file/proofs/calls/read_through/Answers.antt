use Rattle.rg_file.proofs.Causes.{cause_failed}
use Rattle.rg_file.proofs.calls.read_through.Goals as goal

pub returns-in-Err-Other-clause-cause : goal.returns-in-Err-Other-clause-cause
returns-in-Err-Other-clause-cause g c =
    cause_failed _ _ _ _ _ c.loop.invariant.later c.in-Err-Other.ensures.cause

pub returns-in-Err-clause-cause : goal.returns-in-Err-clause-cause
returns-in-Err-clause-cause g c =
    cause_failed _ _ _ _ _ c.loop.invariant.later c.in-Err.ensures.cause
