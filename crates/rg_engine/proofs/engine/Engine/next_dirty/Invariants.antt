use Rattle.std.proofs.Common.{◌+◌}
use Rattle.rg_engine.specs.Engine.{seen_in}
use Rattle.rg_engine.specs.OnVolume.{AllCleanBefore}
use Rattle.rg_engine.specs.Wrote.{SameEngine}
use Rattle.rg_engine.proofs.engine.Engine.next_dirty.Given as goal

-- the pages so far are clean
abbrev pub invariant-loop-before : goal.invariant-loop-before
invariant-loop-before l =
    SameEngine l.fn.self l.self × AllCleanBefore (seen_in l.fn.self).pages l.marks (l.before + 1)
