use Rattle.std.proofs.Common.{◌+◌}
use Rattle.rg_mem.specs.Shown.{shown}
use Rattle.rg_mem.proofs.Noting.{image_of-picked}
use Rattle.rg_mem.proofs.volume.MemVolume.crash.Goals as goal

pub returns-clause-image : goal.returns-clause-image
returns-clause-image c =
    image_of-picked (shown c.args.self.now) (λ set page. c.args.pick + page) _ _ _
    c.in_ok-picked.ensures.each c.in_ok-picked-2.ensures.each c.in_ok-picked-3.ensures.each
