use Rattle.std.proofs.Common.{◌≡◌, ◌++◌, take}
use Rattle.rg_bulk.specs.Branch.{joined}
use Rattle.rg_btree.proofs.walk.+collect_all.Given as goal

abbrev pub decreases-collect_all : goal.decreases-collect_all
decreases-collect_all l = l.node.now.height

-- the entries of the children that were looked at
abbrev pub invariant-loop-kid : goal.invariant-loop-kid
invariant-loop-kid l = l.found.items ≡ l.fn.found.items ++ joined (take l.kid-index l.kid-items)
