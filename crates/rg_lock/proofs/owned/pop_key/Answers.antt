use Rattle.std.proofs.Common.{◌<◌, length, arith}
use Rattle.rg_lock.proofs.KeyLists.{popped-set}
use Rattle.rg_lock.proofs.owned.pop_key.Goals as goal

pub returns-clause-keys : goal.returns-clause-keys
returns-clause-keys c =
    let within : c.from.result < length c.args.lists.now.items =
    grind (arith, c.args.lists.now.ok.0, c.requires) in
    popped-set c.args.lists.now.items c.from.result c.args.session.0 c.from.ensures within
    c.index_mut.result.now c.pop.new.self c.index_mut.ensures.value c.pop.result c.pop.ensures.items
    c.pop.ensures.cases
