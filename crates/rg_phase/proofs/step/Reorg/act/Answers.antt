use Rattle.std.proofs.Common.{sym, ◌∙◌}
use Rattle.rg_phase.proofs.Booking.{works_none}
use Rattle.rg_phase.proofs.Receiving.{behind_all}
use Rattle.rg_phase.proofs.step.Reorg.act.Goals as goal

pub returns-in-None-clause-works : goal.returns-in-None-clause-works
returns-in-None-clause-works g c =
    works_none g.V.Volume.seen c.args.self.now.made c.args.inlet.now c.end.new.desk
    c.end.ensures.over c.end.ensures.shadow
    (behind_all c.args.inlet.now.items c.end.new.desk.feed
    (c.requires.hears.items ∙ sym c.end.ensures.feed))
