use Rattle.std.proofs.Common.{◌-◌, ◌≡◌, ◌≤◌, ◌++◌, ◌+◌}
use Rattle.rg_gen.specs.Deck.{rounds, round_count}
use Rattle.rg_gen.proofs.make.push_rounds.Given as goal

-- what was appended, with the rounds that are left, is all of them
abbrev pub invariant-loop-round : goal.invariant-loop-round
invariant-loop-round l = record {
  within : l.round ≤ l.count;
  deck :
      l.deck.items ++ rounds l.rows (l.count - l.round) (l.round + 1) l.draws.state
      ≡ l.fn.deck.items ++ rounds l.rows (round_count l.rows) 1 l.fn.draws.state;
}

abbrev pub decreases-loop-round : goal.decreases-loop-round
decreases-loop-round l = l.count - l.round
