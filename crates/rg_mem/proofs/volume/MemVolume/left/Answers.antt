use Rattle.std.proofs.Common.{length, take, ap, arith}
use Rattle.rg_outside.proofs.Images.{read_is_left}
use Rattle.rg_mem.specs.Listed.{calls_of, image_of}
use Rattle.rg_mem.proofs.volume.MemVolume.left.Goals as goal

pub returns-clause-some : goal.returns-clause-some
returns-clause-some c =
    let here = read_is_left
    (image_of c.args.self.now.log.items c.args.self.now.first.items c.args.self.now.second.items)
    (calls_of c.args.self.now.writes.items
    (take c.loop-call.call-index c.args.self.now.calls.items)) c.args.set c.args.page in
    omega (arith, here.1, c.loop-call.left.ok.0, ap length c.loop-call.invariant.leaves)
