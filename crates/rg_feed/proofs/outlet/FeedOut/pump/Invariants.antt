use Rattle.std.proofs.Common.{◌≡◌, ◌≤◌, ◌+◌}
use Rattle.rg_feed.specs.Ends.{Pumped, SameSent}
use Rattle.rg_feed.proofs.outlet.FeedOut.pump.Given as goal

abbrev pub invariant-loop-moved : goal.invariant-loop-moved
invariant-loop-moved l = record {
  same : SameSent l.fn.self l.self;
  moved : Pumped l.moved l.fn.self l.self;
  free : l.self.free + l.moved ≡ l.free;
  spare : l.fn.self.spare ≤ l.self.spare;
}
