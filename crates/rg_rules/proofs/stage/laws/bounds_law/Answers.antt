use Rattle.rg_rules.proofs.StageLemmas.Bounds.{bounded-start, bounded-grow, bounded-numbers}
use Rattle.rg_rules.proofs.stage.laws.bounds_law.Goals as goal

pub returns : goal.returns
returns c = record {
  start = bounded-start;
  grow = bounded-grow;
  numbers = bounded-numbers;
}
