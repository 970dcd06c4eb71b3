use Rattle.std.proofs.Common.{◌≡◌, ◌++◌, take}
use Rattle.rg_index.specs.Entries.{entries_within}
use Rattle.rg_bulk.specs.Branch.{joined}
use Rattle.rg_btree.proofs.walk.+collect.Given as goal

abbrev pub decreases-collect : goal.decreases-collect
decreases-collect l = l.node.now.height

-- the entries of the children that were looked at
abbrev pub invariant-loop-kid : goal.invariant-loop-kid
invariant-loop-kid l =
    l.found.items ≡ l.fn.found.items ++ entries_within l.lo l.hi (joined (take l.kid-index l.kids))
