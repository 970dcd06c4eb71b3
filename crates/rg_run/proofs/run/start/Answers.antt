use Rattle.rg_run.proofs.Plays.{goes_dropped, goes_started}
use Rattle.rg_run.proofs.Working.{works_started, works_unstarted}
use Rattle.rg_run.proofs.run.start.Goals as goal

pub returns-then-not-branch-clause-goes : goal.returns-then-not-branch-clause-goes
returns-then-not-branch-clause-goes g c = λ first lines goes.
    let look = g.V.Volume.seen in
    goes_started look g.met.V.Volume.told_faults first c.args.desk.now c.start.new.self lines goes
    c.args.options c.in_ok-start.field-0 c.in_ok-start.ensures.made

pub returns-clause-goes : goal.returns-clause-goes
returns-clause-goes g c = λ first lines goes.
    let look = g.V.Volume.seen in
    let started = goes_started look g.met.V.Volume.told_faults first c.args.desk.now
    c.start.new.self lines goes c.args.options c.in_ok-start.field-0 c.in_ok-start.ensures.made in
    goes_dropped look first c.start.new.self c.forget.new.desk _ c.forget.ensures.desk started

pub returns-then-not-branch-clause-works : goal.returns-then-not-branch-clause-works
returns-then-not-branch-clause-works g c = λ inlet works.
    works_unstarted g.V.Volume.seen c.args.desk.now c.start.new.self c.args.options
    c.in_ok-start.field-0 c.in_ok-start.ensures.made inlet c.args.reorg.now.made works
    c.if-not-branch.true

pub returns-clause-works : goal.returns-clause-works
returns-clause-works g c = λ inlet works.
    works_started g.V.Volume.seen c.args.desk.now c.start.new.self c.args.options
    c.in_ok-start.field-0 c.in_ok-start.ensures.made inlet c.args.reorg.now.made works
    c.forget.new.desk c.forget.new.self.made c.if-not-branch.false c.forget.ensures.desk
    c.forget.ensures.made
