use Rattle.std.proofs.Common.{ap}
use Rattle.rg_file.specs.Sizes.{file_capacities}
use Rattle.rg_file.proofs.Untold.{made_read, made_write, made_sync, untold}
use Rattle.rg_file.proofs.volume.FileVolumeVolume.TheImpl.Goals as goal

-- nothing is reported of a call
pub read-tells : goal.read-tells
read-tells g c = record {
  made = made_read c.result;
  content = untold c.result;
  kept = c.ensures.kept;
  capacities = ap file_capacities c.ensures.sizes;
  cause = c.ensures.cause;
}

pub write-tells : goal.write-tells
write-tells g c =
    record {
      made = made_write c.result _ _ _;
      capacities = ap file_capacities c.ensures.sizes;
      cause = c.ensures.cause;
    }

pub sync-tells : goal.sync-tells
sync-tells g c = record {
  made = made_sync c.result;
  capacities = ap file_capacities c.ensures.sizes;
  cause = c.ensures.cause;
}
