use Rattle.std.proofs.Common.{sym, subst, ◌∙◌}
use Rattle.rg_stmt.specs.declared.stmt.Stmt.{Stmt}
use Rattle.rg_engine.specs.Answers.{Asks, forces}
use Rattle.rg_engine.specs.Steps.{Steps}
use Rattle.rg_engine.proofs.Answering.{commit_is, other_asks}
use Rattle.rg_engine.proofs.engine.Engine.answer_over.Goals as goal

pub returns-then-is_commit-clause-steps : goal.returns-then-is_commit-clause-steps
returns-then-is_commit-clause-steps g c =
    subst (λ (s : Stmt). Steps c.args.self.now c.args.session s c.commit.result c.commit.new.self)
    (sym (commit_is c.args.stmt.now (sym c.is_commit.ensures ∙ c.if-is_commit.true)))
    c.commit.ensures.steps

pub returns-then-is_commit-clause-asks : goal.returns-then-is_commit-clause-asks
returns-then-is_commit-clause-asks g c =
    subst
    (λ (s : Stmt). Asks (forces c.args.self.now.units c.args.session s) c.commit.result
    c.args.self.now.log c.commit.new.self.log
    (g.V.Volume.seen c.args.volume.now)
    (g.V.Volume.seen c.commit.new.volume))
    (sym (commit_is c.args.stmt.now (sym c.is_commit.ensures ∙ c.if-is_commit.true)))
    c.commit.ensures.asks

pub answer-requires-clause-other : goal.answer-requires-clause-other
answer-requires-clause-other g c = sym c.is_commit.ensures ∙ c.if-is_commit.false

pub returns-clause-asks : goal.returns-clause-asks
returns-clause-asks g c =
    other_asks c.args.self.now c.requires.shown c.args.session c.args.stmt.now c.answer.result
    c.answer.new.self _ (sym c.is_commit.ensures ∙ c.if-is_commit.false) c.answer.ensures
