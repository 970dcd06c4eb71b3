use Rattle.std.proofs.Common.{◌∙◌}
use Rattle.rg_engine.proofs.Answering.{replies_pages, replies_shown}
use Rattle.rg_tests_desk.proofs.desk.shown.ShownEngine.say.Goals as goal

pub invariant_of-self : goal.invariant_of-self
invariant_of-self c = (
  replies_shown c.self.inside.down c.self.inside.engine c.args.session c.args.stmt.now
      c.reply_to.result c.reply_to.new.engine c.reply_to.new.down _ _ c.reply_to.ensures.replies
      c.self.invariant.0,
  replies_pages c.self.inside.down c.self.inside.engine c.args.session c.args.stmt.now
      c.reply_to.result c.reply_to.new.engine c.reply_to.new.down _ _ c.reply_to.ensures.replies
      c.self.invariant.0 c.self.invariant.1,
  c.reply_to.ensures.ring ∙ c.self.invariant.2,
)
