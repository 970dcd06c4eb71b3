use Rattle.std.proofs.Common.{sym, ap, ◌∙◌}
use Rattle.rg_feed.specs.declared.fold.item.Stage.{Stage}
use Rattle.rg_rules.specs.Stage.NumbersOf.{numbers_of}
use Rattle.rg_rules.proofs.StageLemmas.Asked.{step_is}
use Rattle.rg_rules.proofs.stage.follow.next_stage.Goals as goal

pub returns-clause-followed : goal.returns-clause-followed
returns-clause-followed c covered turn e =
    c.follow_step.ensures.followed covered turn
    (sym (step_is c.args.all covered c.args.answer.now (numbers_of c.args.stage.now)
    (numbers_of c.with_alter.result) c.args.stage.now.drain c.with_alter.result.drain
    c.args.event.now c.if-stage.false
    (sym c.is_terminated.ensures ∙ c.if-is_terminated.false)
    c.with_alter.ensures.numbers (ap (λ (s : Stage). s.drain) c.with_alter.ensures.rest)) ∙ e)
