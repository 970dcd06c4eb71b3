use Rattle.std.proofs.Common.{◌≡◌, take}
use Rattle.rg_page.specs.Stretches.{total}
use Rattle.rg_page.proofs.areas.sum.Given as goal

abbrev pub invariant-loop-length : goal.invariant-loop-length
invariant-loop-length l = l.all ≡ total (take l.length-index l.lengths)
