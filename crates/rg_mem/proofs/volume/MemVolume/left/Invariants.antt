use Rattle.std.proofs.Common.{◌≡◌, take}
use Rattle.rg_outside.specs.Calls.{read_of, left_of}
use Rattle.rg_mem.specs.Listed.{calls_of, image_of}
use Rattle.rg_mem.proofs.volume.MemVolume.left.Given as goal

abbrev pub invariant-loop-call : goal.invariant-loop-call
invariant-loop-call l =
    let first = image_of l.self.log.items l.self.first.items l.self.second.items in
    let calls = calls_of l.self.writes.items (take l.call-index l.self.calls.items) in
    record {
      reads : l.read ≡ read_of first calls l.set l.page;
      leaves : l.left.items ≡ left_of first calls l.set l.page;
    }
