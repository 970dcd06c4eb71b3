use Rattle.std.proofs.Common.{length}
use Rattle.rg_opts.proofs.File.{ReadSoFar}
use Rattle.rg_opts.proofs.operator.read_operator.Given as goal

abbrev pub invariant-loop-rest : goal.invariant-loop-rest
invariant-loop-rest l = ReadSoFar l.bytes l.rest l.answers.items l.number

abbrev pub decreases-loop-rest : goal.decreases-loop-rest
decreases-loop-rest l = length l.rest
