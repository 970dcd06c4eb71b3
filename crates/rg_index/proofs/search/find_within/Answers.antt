use Rattle.std.proofs.Common.{sym}
use Rattle.rg_index.proofs.Found.{within_is, within_none}
use Rattle.rg_index.proofs.search.find_within.Goals as goal

pub returns-then-to-from : goal.returns-then-to-from
returns-then-to-from c = sym
    (within_none c.args.lo c.args.hi c.args.entries.now c.count_below-from.result
    c.count_up_to-to.result c.if-to-from.true c.count_below-from.ensures c.count_up_to-to.ensures)

pub returns : goal.returns
returns c = sym
    (within_is c.args.lo c.args.hi c.args.entries.now c.count_below-from.result
    c.count_up_to-to.result c.count_below-from.ensures c.count_up_to-to.ensures)
