use Rattle.std.proofs.Common.{◌+◌, ◌%◌, refl, ap, ◌∙◌, arith}
use Rattle.rg_gen.specs.Draws.{next_state, drawn}
use Rattle.rg_gen.specs.Deck.{row_of}
use Rattle.rg_gen.proofs.Deck.{round-keeps}
use Rattle.rg_gen.proofs.make.push_rounds.Goals as goal

pub loop-round-preserved : goal.loop-round-preserved
loop-round-preserved c =
    let below = c.loop-round-test.true in
    let state = c.loop-round.draws.state in
    record {
      within = omega arith;
      deck = round-keeps c.args.rows c.count_rounds-count.result c.loop-round.round state
          c.draw.result c.draw-in-loop-round.result c.draw-in-loop-round.new.self.state
          (2 + (c.loop-round.round + 1) % 4) c.in_ok-row.row c.loop-round.deck.items
          c.push_round.new.deck.items _ below
          c.draw.ensures.drawn
          (c.draw-in-loop-round.ensures.drawn ∙ ap (λ s. drawn (next_state s)) c.draw.ensures.state)
          (c.draw-in-loop-round.ensures.state ∙ ap next_state c.draw.ensures.state)
          refl
          (c.in_ok-row.ensures
          ∙ ap (λ m. row_of (1 + c.draw.result % m) c.draw-in-loop-round.result 98) c.from.ensures)
          c.in_ok-push_round.ensures c.loop-round.invariant.deck;
    }
