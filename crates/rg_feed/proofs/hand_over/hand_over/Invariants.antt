use Rattle.std.proofs.Common.{◌≡◌, ◌≤◌, ◌+◌}
use Rattle.rg_feed.specs.Ends.{Grew, Joined, SameSent, waiting}
use Rattle.rg_feed.proofs.hand_over.hand_over.Given as goal

abbrev pub invariant-loop-passed : goal.invariant-loop-passed
invariant-loop-passed l = record {
  grew : Grew l.fn.inlet l.inlet;
  sent : SameSent l.fn.outlet l.outlet;
  joined : Joined l.inlet l.outlet;
  ring : l.outlet.ring ≡ l.inlet.ring;
  left : waiting l.inlet l.outlet + l.passed ≡ l.count;
  room : l.count ≤ l.inlet.spare + l.passed;
  spare : l.fn.outlet.spare ≤ l.outlet.spare;
}
