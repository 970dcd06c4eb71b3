use Rattle.std.proofs.Common.{◌≡◌, take}
use Rattle.rg_print.specs.Print.{entries_text}
use Rattle.rg_print.proofs.print.print.Given as goal

abbrev pub invariant-loop-number : goal.invariant-loop-number
invariant-loop-number l = l.out.items ≡ entries_text l.full 0 (take l.number l.trace)
