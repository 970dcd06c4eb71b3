use Rattle.std.proofs.Common.{length}
use Rattle.rg_deck.proofs.Deck.{ReadSoFar}
use Rattle.rg_deck.proofs.read.read_admitted.Given as goal

abbrev pub invariant-loop-rest : goal.invariant-loop-rest
invariant-loop-rest l = ReadSoFar l.admits l.bytes l.rest l.lines.items l.number

abbrev pub decreases-loop-rest : goal.decreases-loop-rest
decreases-loop-rest l = length l.rest
