use Rattle.std.proofs.Common.{◌-◌, ◌≡◌, ◌≤◌, ◌++◌, ◌+◌}
use Rattle.rg_gen.specs.Deck.{inserts, after_draws}
use Rattle.rg_gen.proofs.make.push_inserts.Given as goal

-- what was appended, with the inserts that are left, is all of them
abbrev pub invariant-loop-key : goal.invariant-loop-key
invariant-loop-key l = record {
  within : l.key ≤ l.rows;
  deck :
      l.deck.items ++ inserts l.rows (l.rows - l.key) (l.key + 1) l.draws.state
      ≡ l.fn.deck.items ++ inserts l.rows l.rows 1 l.fn.draws.state;
  state : after_draws (l.rows - l.key) l.draws.state ≡ after_draws l.rows l.fn.draws.state;
}

abbrev pub decreases-loop-key : goal.decreases-loop-key
decreases-loop-key l = l.rows - l.key
