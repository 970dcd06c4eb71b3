use Rattle.std.proofs.Common.{take}
use Rattle.std.specs.List.{AllByRecursion}
use Rattle.rg_base.specs.Text.{IsLetter}
use Rattle.rg_base.proofs.row_bytes.count_letters.Given as goal

abbrev pub invariant-loop-at : goal.invariant-loop-at
invariant-loop-at l = AllByRecursion IsLetter (take l.at l.bytes)
