use Rattle.rg_shadow.proofs.Changing.{put_follows}
use Rattle.rg_shadow.proofs.pieces.Pieces.put.Goals as goal

pub returns-clause-whole : goal.returns-clause-whole
returns-clause-whole c =
    (put_follows c.args.self.now c.plan_put.new.self c.carry.new.self c.in_ok-plan.plan
    c.args.source c.plan_put.ensures.same c.plan_put.ensures.whole c.put.new.self c.args.row.now
    c.in_ok-plan.ensures.ready c.carry.ensures c.requires.absent c.in_ok-plan.ensures.fresh
    c.put.ensures.targets c.in_ok-plan.ensures.plan).whole

pub returns-clause-applies : goal.returns-clause-applies
returns-clause-applies c =
    (put_follows c.args.self.now c.plan_put.new.self c.carry.new.self c.in_ok-plan.plan
    c.args.source c.plan_put.ensures.same c.plan_put.ensures.whole c.put.new.self c.args.row.now
    c.in_ok-plan.ensures.ready c.carry.ensures c.requires.absent c.in_ok-plan.ensures.fresh
    c.put.ensures.targets c.in_ok-plan.ensures.plan).applies
