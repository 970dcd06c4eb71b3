use Rattle.rg_btree.proofs.Choice.{first_child, child_at}
use Rattle.rg_btree.proofs.add.child_of.Goals as goal

pub returns-then-through-eq0 : goal.returns-then-through-eq0
returns-then-through-eq0 c = first_child c.args.entry c.args.keys.now c.count_through-through.result
    c.requires.some c.count_through-through.ensures c.if-through-eq0.true

pub returns : goal.returns
returns c = child_at c.args.entry c.args.keys.now c.count_through-through.result
    c.count_through-through.ensures c.if-through-eq0.false
