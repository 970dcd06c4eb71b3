use Rattle.rg_feed.proofs.FoldLemmas.Applied.{same_fold}
use Rattle.rg_net.proofs.InOrder.{net-homes, net-last, net-members}
use Rattle.rg_net.proofs.net.net.Goals as goal

pub returns-clause-last : goal.returns-clause-last
returns-clause-last c = net-last c.args.changes.now c.in_ok-last.last c.in_ok-last.ensures
    c.in_ok-into_list.field-0.items c.in_ok-into_list.ensures

pub returns-clause-fold : goal.returns-clause-fold
returns-clause-fold c place =
    same_fold c.in_ok-into_list.field-0.items c.args.changes.now place
    (net-last c.args.changes.now c.in_ok-last.last c.in_ok-last.ensures
    c.in_ok-into_list.field-0.items c.in_ok-into_list.ensures place)

pub returns-clause-homes : goal.returns-clause-homes
returns-clause-homes c = net-homes c.args.changes.now c.in_ok-last.last c.in_ok-last.ensures
    c.in_ok-into_list.field-0.items c.in_ok-into_list.ensures

pub returns-clause-members : goal.returns-clause-members
returns-clause-members c = net-members c.args.changes.now c.in_ok-last.last c.in_ok-last.ensures
    c.in_ok-into_list.field-0.items c.in_ok-into_list.ensures
