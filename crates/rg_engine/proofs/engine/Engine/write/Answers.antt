use Rattle.rg_engine.proofs.engine.Engine.write.Goals as goal
use Rattle.std.proofs.Common.{◌≤◌, ℕ, ◌∙◌, ap, subst}
use Rattle.rg_engine.specs.Bytes.{most_needed, needed}
use Rattle.rg_engine.specs.Wrote.{Prepares}

pub returns : goal.returns
returns c = record {
  middle = c.prepare.new.self;
  prepared =
      subst
      (λ (n : ℕ). Prepares c.args.self.now c.args.session n c.args.key c.args.plan.before
      c.prepare.new.self)
      (c.needed-need.ensures.size ∙ ap (λ o. needed o c.args.plan c.args.after) c.get.ensures)
      (subst
      (λ k. Prepares c.args.self.now c.args.session c.needed-need.result c.args.key k
      c.prepare.new.self)
      (c.in-Ok.ensures ∙ c.as_ref.ensures.value) c.in-Ok-prepare.ensures.ok);
  put = c.put.ensures;
  most = subst (λ (n : ℕ). n ≤ most_needed)
      (c.needed-need.ensures.size ∙ ap (λ o. needed o c.args.plan c.args.after) c.get.ensures)
      c.needed-need.ensures.high;
}
