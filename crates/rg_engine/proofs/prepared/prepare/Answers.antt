use Rattle.std.proofs.Common.{inr, length, refl, arith}
use Rattle.rg_laws_crash.specs.NewCopy.Writing.{WritesCopy}
use Rattle.rg_outside.proofs.Frame.{no_calls}
use Rattle.rg_engine.specs.CopyPages.Stamped.{stamped_all}
use Rattle.rg_engine.proofs.Flushing.{forces_none}
use Rattle.rg_engine.proofs.prepared.prepare.Goals as goal

pub returns-in-Err-clause-err : goal.returns-in-Err-clause-err
returns-in-Err-clause-err g c =
    let seen =
    g.V.Volume.seen c.args.volume.now in
    record {
      mid = seen;
      forces = forces_none c.args.engine.now seen c.forced.ensures.within;
      only = no_calls
          (WritesCopy c.args.copy
          (stamped_all (length c.args.engine.now.log.records) c.args.shadow.pages)) seen.told;
      capacities = refl;
      later = omega arith;
      settled = inr refl;
    }
