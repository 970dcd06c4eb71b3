use Rattle.std.proofs.Common.{ℕ, subst}
use Rattle.rg_engine.specs.Turned.{LogsSwitch}
use Rattle.rg_engine.proofs.switch.turn.Goals as goal

pub returns-in-Ok-clause-ok : goal.returns-in-Ok-clause-ok
returns-in-Ok-clause-ok g c =
    let look = g.V.Volume.seen in
    record {
      mid = c.log_switch.new.self;
      logs = subst
          (λ (n : ℕ). LogsSwitch c.args.copy n (look c.args.volume.now)
          (look c.log_switch.new.volume) c.args.engine.now c.log_switch.new.self)
          c.count-count.ensures.count c.log_switch.ensures.logs;
      forced = c.in-Ok.ensures.ok;
      takes = c.take_copy.ensures;
    }
