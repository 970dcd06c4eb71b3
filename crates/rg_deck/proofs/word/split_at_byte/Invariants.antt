use Rattle.std.proofs.Common.{take}
use Rattle.rg_deck.specs.Reading.{Lacks}
use Rattle.rg_deck.proofs.word.split_at_byte.Given as goal

abbrev pub invariant-loop-i : goal.invariant-loop-i
invariant-loop-i l = Lacks l.mark (take l.i l.bytes)
