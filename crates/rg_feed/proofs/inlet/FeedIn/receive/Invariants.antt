use Rattle.std.proofs.Common.{◌≡◌, ◌≤◌, ◌+◌, ◌++◌, take, drop, length}
use Rattle.rg_feed.specs.Ends.{still_taken}
use Rattle.rg_feed.proofs.inlet.FeedIn.receive.Given as goal

abbrev pub invariant-loop-taken : goal.invariant-loop-taken
invariant-loop-taken l = record {
  ring : l.self.ring ≡ l.initial.self.ring;
  items : l.self.items ≡ l.initial.self.items ++ take l.taken l.initial.self.known;
  known : l.self.known ≡ drop l.taken l.initial.self.known;
  taken : l.self.taken ≡ still_taken (take l.taken l.initial.self.known) l.initial.self.taken;
  room : length l.initial.self.known ≤ l.self.spare + l.taken;
}
