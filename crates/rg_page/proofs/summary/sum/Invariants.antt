use Rattle.std.proofs.Common.{◌≡◌, take}
use Rattle.rg_home.specs.Slots.{used}
use Rattle.rg_page.proofs.summary.sum.Given as goal

abbrev pub invariant-loop-i : goal.invariant-loop-i
invariant-loop-i l = l.all ≡ used (take l.i l.headers)
