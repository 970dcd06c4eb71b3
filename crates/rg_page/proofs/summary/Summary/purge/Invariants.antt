use Rattle.rg_page.specs.Bare.{numbers_of}
use Rattle.std.proofs.Common.{◌≡◌, ◌++◌, drop}
use Rattle.rg_home.specs.Plan.{purge_from}
use Rattle.rg_page.proofs.summary.Summary.purge.Given as goal

abbrev pub invariant-loop-i : goal.invariant-loop-i
invariant-loop-i l = l.parts.items ++ purge_from (numbers_of l.live) l.number l.i (drop l.i l.self)
    ≡ purge_from (numbers_of l.live) l.number 0 l.self
