use Rattle.std.proofs.Common.{◌+◌, ◌-◌, ap, sym, ◌∙◌, arith}
use Rattle.rg_gen.specs.Deck.{after_draws}
use Rattle.rg_gen.proofs.Deck.{insert-keeps, draws-next}
use Rattle.rg_gen.proofs.make.push_inserts.Goals as goal

pub loop-key-preserved : goal.loop-key-preserved
loop-key-preserved c =
    let below = c.loop-key-test.true in
    let rows = c.args.rows in
    let key = c.loop-key.key in
    let state = c.loop-key.draws.state in
    record {
      within = omega arith;
      deck = insert-keeps rows key state c.draw-draw.result c.draw-draw.new.self.state
          c.loop-key.deck.items
          c.push_insert.new.deck.items _ below c.draw-draw.ensures.drawn c.draw-draw.ensures.state
          c.in_ok-push_insert.ensures c.loop-key.invariant.deck;
      state = ap (λ x. after_draws (rows - (key + 1)) x) c.draw-draw.ensures.state
          ∙ sym (draws-next rows key state below) ∙ c.loop-key.invariant.state;
    }
