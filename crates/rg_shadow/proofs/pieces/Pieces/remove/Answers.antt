use Rattle.rg_shadow.proofs.Changing.{remove_follows}
use Rattle.rg_shadow.proofs.pieces.Pieces.remove.Goals as goal

pub returns-clause-whole : goal.returns-clause-whole
returns-clause-whole c =
    (remove_follows c.args.self.now c.plan_drop.new.self c.carry.new.self c.in_ok-plan.plan
    c.args.source c.plan_drop.ensures.same c.plan_drop.ensures.whole c.take.new.self c.args.target
    c.in_ok-plan.ensures.ready c.carry.ensures c.requires.there c.in_ok-plan.ensures.home
    c.take.ensures.targets c.in_ok-plan.ensures.plan).whole

pub returns-clause-applies : goal.returns-clause-applies
returns-clause-applies c =
    (remove_follows c.args.self.now c.plan_drop.new.self c.carry.new.self c.in_ok-plan.plan
    c.args.source c.plan_drop.ensures.same c.plan_drop.ensures.whole c.take.new.self c.args.target
    c.in_ok-plan.ensures.ready c.carry.ensures c.requires.there c.in_ok-plan.ensures.home
    c.take.ensures.targets c.in_ok-plan.ensures.plan).applies
