use Rattle.std.proofs.Common.{◌<◌, length, arith}
use Rattle.rg_lock.proofs.KeyLists.{appended-set, same-set}
use Rattle.rg_lock.proofs.owned.push_key.Goals as goal

pub returns-in-Ok-clause-ok : goal.returns-in-Ok-clause-ok
returns-in-Ok-clause-ok c =
    let within : c.from.result < length c.args.lists.now.items =
    grind (arith, c.args.lists.now.ok.0, c.requires) in
    appended-set c.args.lists.now.items c.from.result c.args.session.0 c.from.ensures within
    c.index_mut.result.now c.push.new.self c.index_mut.ensures.value c.args.key
    c.in-Ok.ensures.items

pub returns-in-Err-clause-err : goal.returns-in-Err-clause-err
returns-in-Err-clause-err c =
    let within : c.from.result < length c.args.lists.now.items =
    grind (arith, c.args.lists.now.ok.0, c.requires) in
    same-set c.args.lists.now.items c.from.result c.args.session.0 c.from.ensures within
    c.index_mut.result.now c.push.new.self c.index_mut.ensures.value c.in-Err.ensures.items
