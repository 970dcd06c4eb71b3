use Rattle.rg_btree.proofs.Kids.{keys_renewed}
use Rattle.rg_btree.proofs.add.renew_kid.Goals as goal

pub returns-in_default-clause-keys : goal.returns-in_default-clause-keys
returns-in_default-clause-keys c = keys_renewed c.args.keys.now.items c.args.kids.now.items
    c.args.at c.index.result.now c.first.result c.requires.within c.requires.count c.requires.front
    c.requires.back c.first.ensures c.index.ensures
