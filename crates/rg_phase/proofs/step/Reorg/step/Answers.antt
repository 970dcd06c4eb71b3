use Rattle.std.proofs.Common.{◌≡◌, Option, Some, None, subst, sym}
use Rattle.rg_desk.specs.Desk.{BeginsStep, DeskState}
use Rattle.rg_desk.specs.declared.task.Task.{Task}
use Rattle.rg_phase.specs.Made.{Works}
use Rattle.rg_phase.proofs.Beginning.{hears_asked, stepped_asked, stepped_refused, works_asked}
use Rattle.rg_phase.proofs.Beginning.{works_begun, works_refused}
use Rattle.rg_phase.proofs.step.Reorg.step.Goals as goal

pub returns-in-None-clause-stepped : goal.returns-in-None-clause-stepped
returns-in-None-clause-stepped g c =
    let look = g.V.Volume.seen in
    let answers = g.O.Operator.answers in
    let last = g.O.Operator.last in
    let old = c.args.desk.now in
    stepped_refused look answers last old c.args.self.now.made c.begin_step.new.self
    c.begin_step.new.inlet.taken c.requires.kept c.begin_step.ensures.feed
    (subst (λ (o : Option Task). BeginsStep look answers last old c.begin_step.new.self o)
    c.in-None.is c.in_ok-begin_step.ensures.begins)

pub returns-in-None-clause-works : goal.returns-in-None-clause-works
returns-in-None-clause-works g c =
    let look = g.V.Volume.seen in
    let answers = g.O.Operator.answers in
    let last = g.O.Operator.last in
    let old = c.args.desk.now in
    works_refused look answers last old c.args.self.now.made c.begin_step.new.self
    c.args.inlet.now c.begin_step.new.inlet c.begin_step.ensures.grew
    c.in_ok-begin_step.ensures.all
    (subst (λ (o : Option Task). BeginsStep look answers last old c.begin_step.new.self o)
    c.in-None.is c.in_ok-begin_step.ensures.begins) c.requires.works

pub act-requires-clause-hears : goal.act-requires-clause-hears
act-requires-clause-hears g c =
    let look = g.V.Volume.seen in
    let answers = g.O.Operator.answers in
    let last = g.O.Operator.last in
    let old = c.args.desk.now in
    hears_asked look answers last old c.args.self.now.made c.in-Some.task c.begin_step.new.self
    (subst (λ (o : Option Task). BeginsStep look answers last old c.begin_step.new.self o)
    c.in-Some.is c.in_ok-begin_step.ensures.begins) c.begin_step.ensures.feed
    c.begin_step.new.inlet c.in_ok-begin_step.ensures.all

pub act-requires-clause-works : goal.act-requires-clause-works
act-requires-clause-works g c =
    let look = g.V.Volume.seen in
    let answers = g.O.Operator.answers in
    let last = g.O.Operator.last in
    let old = c.args.desk.now in
    works_asked look answers last old c.args.self.now.made c.in-Some.task c.begin_step.new.self
    (subst (λ (o : Option Task). BeginsStep look answers last old c.begin_step.new.self o)
    c.in-Some.is c.in_ok-begin_step.ensures.begins) c.begin_step.ensures.feed c.args.inlet.now
    c.begin_step.new.inlet c.begin_step.ensures.grew c.in_ok-begin_step.ensures.all
    c.requires.works

pub returns-in-Some-clause-stepped : goal.returns-in-Some-clause-stepped
returns-in-Some-clause-stepped g c =
    let look = g.V.Volume.seen in
    let answers = g.O.Operator.answers in
    let last = g.O.Operator.last in
    let old = c.args.desk.now in
    stepped_asked look answers last old c.act.new.self.made c.in-Some.task c.begin_step.new.self
    (subst (λ (o : Option Task). BeginsStep look answers last old c.begin_step.new.self o)
    c.in-Some.is c.in_ok-begin_step.ensures.begins) c.begin_step.ensures.feed c.act.new.desk
    c.act.new.inlet.taken c.act.ensures.acts

pub returns-in_err-begin_step-clause-works : goal.returns-in_err-begin_step-clause-works
returns-in_err-begin_step-clause-works g c =
    let old = c.args.desk.now in
    let made = c.args.self.now.made in
    let later = c.begin_step.new.inlet in
    subst
    (λ (d : DeskState g.row.V.Denot g.row.O.Denot). Works g.V.Volume.seen made later d)
    (sym c.in_err-begin_step.ensures.err)
    (works_begun g.V.Volume.seen g.O.Operator.answers g.O.Operator.last old made c.args.inlet.now
    later c.begin_step.ensures.grew c.in_err-begin_step.ensures.heard c.requires.works)
