use Rattle.rg_judge.proofs.Judging.{IsSoFar}
use Rattle.rg_judge.proofs.judge.find_refused.Given as goal

abbrev pub invariant-loop-at : goal.invariant-loop-at
invariant-loop-at l = IsSoFar l.start l.trace l.at l.states.items l.tally l.calls
