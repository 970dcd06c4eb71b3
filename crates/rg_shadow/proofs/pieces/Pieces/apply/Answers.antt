use Rattle.std.proofs.Common.{sym, ap, subst}
use Rattle.std.specs.Option.{option_copied}
use Rattle.rg_shadow.proofs.Changing.{Follows, replace_follows}
use Rattle.rg_shadow.proofs.pieces.Pieces.apply.Goals as goal

follows : (c : goal.After-drop-plan-in-Some-after-2-2)
    → Follows c.args.self.now c.plan_change.new.self c.carry.new.self c.carry.new.self.map
    c.args.source (option_copied c.args.after)
follows c =
    subst
    (Follows c.args.self.now c.plan_change.new.self c.carry.new.self c.carry.new.self.map
    c.args.source) (sym (ap option_copied c.in-Some-after-2.is))
    (replace_follows c.args.self.now c.plan_change.new.self c.carry.new.self
    c.in_ok-plan-in-Some-after-2.plan c.args.source c.plan_change.ensures.same
    c.plan_change.ensures.whole c.in-Some.target c.in-Some-after-2.row.now
    c.in_ok-plan-in-Some-after-2.ensures.ready c.carry.ensures (sym c.in-Some.ensures.target)
    c.in_ok-plan-in-Some-after-2.ensures.home c.in_ok-plan-in-Some-after-2.ensures.plan)

pub returns-in_ok-plan-in-Some-after-2-clause-whole :
    goal.returns-in_ok-plan-in-Some-after-2-clause-whole
returns-in_ok-plan-in-Some-after-2-clause-whole c = (follows c).whole

pub returns-in_ok-plan-in-Some-after-2-clause-applies :
    goal.returns-in_ok-plan-in-Some-after-2-clause-applies
returns-in_ok-plan-in-Some-after-2-clause-applies c = (follows c).applies
