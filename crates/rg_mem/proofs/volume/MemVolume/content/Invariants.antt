use Rattle.std.proofs.Common.{◌≡◌, ◌≤◌, length, take}
use Rattle.rg_outside.specs.Calls.{read_of}
use Rattle.rg_mem.specs.Listed.{calls_of, image_of}
use Rattle.rg_mem.proofs.volume.MemVolume.content.Given as goal

abbrev pub invariant-loop-n : goal.invariant-loop-n
invariant-loop-n l =
    let first = image_of l.self.log.items l.self.first.items l.self.second.items in
    record {
      in_range : l.n ≤ length l.self.calls.items;
      same : read_of first (calls_of l.self.writes.items (take l.n l.self.calls.items)) l.set l.page
          ≡ read_of first (calls_of l.self.writes.items l.self.calls.items) l.set l.page;
    }

abbrev pub decreases-loop-n : goal.decreases-loop-n
decreases-loop-n l = l.n
