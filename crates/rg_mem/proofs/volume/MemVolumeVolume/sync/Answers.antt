use Rattle.rg_outside.specs.Calls.{FailedSync}
use Rattle.rg_mem.proofs.volume.MemVolumeVolume.sync.Goals as goal

pub returns-then-is_some-clause-made : goal.returns-then-is_some-clause-made
returns-then-is_some-clause-made c = (FailedSync, tt, c.note.ensures.made)
