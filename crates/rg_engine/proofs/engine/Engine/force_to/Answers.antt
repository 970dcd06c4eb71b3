use Rattle.rg_engine.proofs.Flushing.{forces_none}
use Rattle.rg_engine.proofs.engine.Engine.force_to.Goals as goal

pub returns-then-position-forced-clause-forces : goal.returns-then-position-forced-clause-forces
returns-then-position-forced-clause-forces g c = forces_none c.args.self.now
    (g.V.Volume.seen c.args.volume.now)
    c.forced.ensures.within
