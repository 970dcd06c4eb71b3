use Rattle.std.proofs.Common.{true, false, sym, ◌∙◌, ap}
use Rattle.rg_model.specs.Held.{has_cat}
use Rattle.rg_engine.proofs.ReadsGo.{held_kept, held_present}
use Rattle.rg_engine.proofs.engine.Engine.holding_up.Goals as goal
use Rattle.rg_engine.proofs.engine.Engine.holding_up.Goals.{then-is_of_cat-via-then-is_of_cat}
use Rattle.rg_engine.proofs.engine.Engine.holding_up.Goals.{
  then-is_of_cat-via-else-is_of_cat+then-has_cat,
}

pub returns-then-is_of_cat-clause-holding : goal.returns-then-is_of_cat-clause-holding
returns-then-is_of_cat-clause-holding c = λ st allowed shows.
    let others = sym c.is_others.ensures ∙ c.if-not-is_others.false in
    elim c.then-is_of_cat.branch [
      | then-is_of_cat-via-then-is_of_cat w ↦
          held_present st allowed c.args.self.now shows c.args.session c.args.cat c.args.key
          c.args.lock.now others (sym (c.is_of_cat.ensures st allowed shows) ∙ w.if-is_of_cat.true)
      | then-is_of_cat-via-else-is_of_cat+then-has_cat w ↦ held_kept st allowed c.args.self.now
          shows c.args.session c.args.cat c.args.key c.args.lock.now true others
          (sym (c.is_of_cat.ensures st allowed shows) ∙ w.if-is_of_cat.false)
          (sym (w.has_cat.ensures ∙ ap (has_cat c.args.cat) w.as_ref.ensures.value)
          ∙ w.if-has_cat.true)
    ]

pub returns-clause-holding : goal.returns-clause-holding
returns-clause-holding c = λ st allowed shows.
    let others = sym c.is_others.ensures ∙ c.if-not-is_others.false in
    held_kept st allowed c.args.self.now shows c.args.session c.args.cat c.args.key c.args.lock.now
    false others
    (sym (c.is_of_cat.ensures st allowed shows) ∙ c.if-is_of_cat.false)
    (sym (c.has_cat.ensures ∙ ap (has_cat c.args.cat) c.as_ref.ensures.value) ∙ c.if-has_cat.false)
