use Rattle.std.proofs.Common.{◌≡◌, true, ap, ◌∙◌, subst}
use Rattle.rg_base.specs.declared.step.Step.{Step}
use Rattle.rg_base.specs.declared.step.Step.TheVariants.{Last, Log, Wait}
use Rattle.rg_model.specs.Turn.{turn_at}
use Rattle.rg_rules.specs.Stage.NumbersOf.{numbers_of}
use Rattle.rg_laws_utility.specs.TraceStage.Tending.{is_booked, is_plain}
use Rattle.rg_phase.specs.Step.{is_device_stop}
use Rattle.rg_phase.specs.Working.{is_filling}
use Rattle.rg_phase.proofs.Stepping.{drain_booked, drain_quiet, drain_unfilled, plain_at}
use Rattle.rg_phase.proofs.next.step_event.Goals as goal

pub returns-in-Log-clause-booked : goal.returns-in-Log-clause-booked
returns-in-Log-clause-booked c = ap is_booked c.log_event.ensures.event

pub returns-in-Log-clause-device : goal.returns-in-Log-clause-device
returns-in-Log-clause-device c = ap is_device_stop c.log_event.ensures.event

pub returns-in-Log-clause-unfilled : goal.returns-in-Log-clause-unfilled
returns-in-Log-clause-unfilled c = ap is_filling c.log_event.ensures.event

pub returns-in-Log-clause-next : goal.returns-in-Log-clause-next
returns-in-Log-clause-next c =
    subst
    (λ (s : Step). is_plain
    (turn_at s c.args.all c.args.holder c.args.answer.now (numbers_of c.args.stage.now)
    c.args.stage.now.drain c.log_event.result) ≡ true) c.in-Log.ensures
    (plain_at Log c.args.all c.args.holder c.args.answer.now (numbers_of c.args.stage.now)
    c.args.stage.now.drain c.log_event.result (λ later. tt)
    (c.log_event.ensures.next c.args.holder))

pub returns-in-Wait-clause-booked : goal.returns-in-Wait-clause-booked
returns-in-Wait-clause-booked c =
    ap is_booked c.wait_event.ensures.event ∙ drain_booked c.in-Wait.asked c.args.stage.now.failed _

pub returns-in-Wait-clause-device : goal.returns-in-Wait-clause-device
returns-in-Wait-clause-device c =
    ap is_device_stop c.wait_event.ensures.event
    ∙ drain_quiet c.args.stage.now.options c.in-Wait.asked c.args.stage.now.asked
    c.args.stage.now.failed c.args.holder c.args.answer.now.now c.args.answer.now.estimate

pub returns-in-Wait-clause-unfilled : goal.returns-in-Wait-clause-unfilled
returns-in-Wait-clause-unfilled c =
    ap is_filling c.wait_event.ensures.event
    ∙ drain_unfilled c.args.stage.now.options c.in-Wait.asked c.args.stage.now.asked
    c.args.stage.now.failed c.args.holder c.args.answer.now.now c.args.answer.now.estimate

pub returns-in-Wait-clause-next : goal.returns-in-Wait-clause-next
returns-in-Wait-clause-next c =
    subst
    (λ (s : Step). is_plain
    (turn_at s c.args.all c.args.holder c.args.answer.now (numbers_of c.args.stage.now)
    c.args.stage.now.drain c.wait_event.result) ≡ true) c.in-Wait.ensures
    (plain_at (Wait c.in-Wait.asked) c.args.all c.args.holder c.args.answer.now
    (numbers_of c.args.stage.now) c.args.stage.now.drain c.wait_event.result (tt, tt, tt)
    (c.wait_event.ensures.next c.args.all))

pub returns-in-Last-clause-booked : goal.returns-in-Last-clause-booked
returns-in-Last-clause-booked c = ap is_booked c.last_event.ensures.event

pub returns-in-Last-clause-device : goal.returns-in-Last-clause-device
returns-in-Last-clause-device c = ap is_device_stop c.last_event.ensures.event

pub returns-in-Last-clause-unfilled : goal.returns-in-Last-clause-unfilled
returns-in-Last-clause-unfilled c = ap is_filling c.last_event.ensures.event

pub returns-in-Last-clause-next : goal.returns-in-Last-clause-next
returns-in-Last-clause-next c =
    subst
    (λ (s : Step). is_plain
    (turn_at s c.args.all c.args.holder c.args.answer.now (numbers_of c.args.stage.now)
    c.args.stage.now.drain c.last_event.result) ≡ true) c.in-Last.ensures
    (plain_at Last c.args.all c.args.holder c.args.answer.now (numbers_of c.args.stage.now)
    c.args.stage.now.drain c.last_event.result tt
    (c.last_event.ensures.next c.args.holder c.args.answer.now))
