use Rattle.std.proofs.Common.{◌+◌, arith}
use Rattle.rg_engine.proofs.PuttingAside.{put_aside}
use Rattle.rg_engine.proofs.engine.Engine.put_aside.Goals as goal

pub returns-clause-ok : goal.returns-clause-ok
returns-clause-ok c =
    put_aside c.args.self.now 28 (c.args.self.now.log.reserved + 28) _ c.in_ok-reserve.ensures.ok
    (omega (arith, c.requires.free)) (omega (arith, c.in_ok-reserve.ensures.room))
