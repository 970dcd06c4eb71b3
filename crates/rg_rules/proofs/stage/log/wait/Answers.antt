use Rattle.rg_rules.specs.Stage.NumbersOf.{numbers_of}
use Rattle.rg_rules.proofs.StageLemmas.Turns.{wait_over}
use Rattle.rg_rules.proofs.stage.log.wait.Goals as goal

pub returns-in_default : goal.returns-in_default
returns-in_default c = record {
  followed = λ covered turn e. wait_over turn c.args.all c.args.answer.now
      (numbers_of c.args.stage.now) c.args.stage.now.drain c.args.asked _ c.args.event.now
      c.in_default.not-Wait c.in_default.not-Granted c.in_default.not-GiveUp e;
  bounded = λ entries b. tt;
  lines = tt;
}
