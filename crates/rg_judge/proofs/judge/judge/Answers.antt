use Rattle.rg_judge.proofs.Exactly.{legal-exactly, refused-exactly}
use Rattle.rg_judge.proofs.judge.judge.Goals as goal

pub returns : goal.returns
returns c = record {
  legal = legal-exactly c.args.start.now c.args.trace.now c.in_ok-found.found c.in_ok-found.ensures;
  refused = λ i. refused-exactly c.args.start.now c.args.trace.now c.in_ok-found.found i
      c.in_ok-found.ensures;
}
