use Rattle.std.proofs.Common.{drop}
use Rattle.rg_net.specs.ByHome.{HasLast}
use Rattle.rg_net.proofs.net.last_changes.Given as goal

-- the last change of each home among those from here on
abbrev pub invariant-loop-i : goal.invariant-loop-i
invariant-loop-i l = HasLast (drop l.i l.changes) l.last
