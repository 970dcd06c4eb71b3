use Rattle.std.proofs.Common.{take}
use Rattle.rg_image.specs.Rules.{IsChain}
use Rattle.rg_check.specs.Chain.Kept.{IsKept}
use Rattle.rg_check.proofs.chain.test.walk_over.Given as goal

abbrev pub invariant-loop-at : goal.invariant-loop-at
invariant-loop-at g l = record {
  kept : IsKept (take l.at l.records) l.chain;
  chain : IsChain (g.V.Volume.seen l.volume).capacities (take l.at l.records);
}
