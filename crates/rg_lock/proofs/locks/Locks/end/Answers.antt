use Rattle.std.proofs.Common.{◌∙◌}
use Rattle.rg_lock.proofs.Ended.{released-without, released-fewer, released-all}
use Rattle.rg_lock.proofs.locks.Locks.end.Goals as goal

pub loop-released-smaller-in-Some : goal.loop-released-smaller-in-Some
loop-released-smaller-in-Some c = released-fewer c.args.session c.loop-released.self
    c.release.new.self c.in-Some._released c.in-Some.ensures

pub loop-released-preserved-in-Some : goal.loop-released-preserved-in-Some
loop-released-preserved-in-Some c = released-without c.args.session c.loop-released.self
    c.release.new.self c.in-Some._released c.in-Some.ensures ∙ c.loop-released.invariant

pub loop-released-smaller : goal.loop-released-smaller
loop-released-smaller c = released-fewer c.args.session c.loop-released.self c.release.new.self
    c.in-Some._released c.in-Some.ensures

pub loop-released-preserved : goal.loop-released-preserved
loop-released-preserved c = released-without c.args.session c.loop-released.self c.release.new.self
    c.in-Some._released c.in-Some.ensures ∙ c.loop-released.invariant

pub returns : goal.returns
returns c = released-all c.args.session c.loop-released.self c.release.new.self c.in_default.ensures
    ∙ c.loop-released.invariant
