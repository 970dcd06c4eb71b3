use Rattle.std.proofs.Common.{◌-◌, arith}
use Rattle.rg_engine.proofs.PuttingAside.{put_aside}
use Rattle.rg_engine.proofs.engine.Engine.give_back_aside.Goals as goal

pub returns : goal.returns
returns c =
    let d = c.args.self.now in
    let shows = c.requires.shown.shows in
    put_aside d 0 (d.log.reserved - d.set_aside) _ c.give_back.ensures
    (omega (arith, shows.by.owed)) (omega (arith, shows.trails.space))
