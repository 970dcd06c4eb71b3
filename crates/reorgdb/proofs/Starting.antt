-- What a refusal before the call names.
use Rattle.std.proofs.Common.{Err, Option, Some, None, List, ℕ, Result, Ok}
use Rattle.std.specs.declared.alloc.Global.{Global}
use Rattle.std.specs.declared.vec.Vec.{Vec}
use Rattle.rg_file.specs.declared.reading.FileFault.{FileFault}
use Rattle.rg_file.specs.declared.reading.FileFault.TheVariants as files
use Rattle.reorgdb.specs.Operator.{Chooses, NamesShort, RefusesScript}
use Rattle.reorgdb.specs.SizesFile.{TakesSizes}
use Rattle.reorgdb.specs.declared.edge.Refusal.{Refusal}
use Rattle.reorgdb.specs.declared.edge.Refusal.TheVariants as refusals

of_script : (bytes : List ℕ) (refusal : Refusal) → RefusesScript bytes refusal → NamesShort refusal
of_script bytes (refusals.VolumeShort sizes length) refuses = absurd refuses
of_script bytes refusal refuses = tt

-- the operator's file is never refused for the length of the volume's
pub names_short : (found : Result (Option (Vec ℕ Global)) FileFault) (refusal : Refusal)
    → Chooses found (Err refusal) → NamesShort refusal
names_short (Ok None) refusal chosen = absurd (cc (chosen))
names_short (Ok (Some bytes)) refusal chosen = of_script bytes.items refusal chosen
names_short (Err files.Failed) (refusals.VolumeShort sizes length) chosen = absurd (cc (chosen))
names_short (Err files.NoMemory) (refusals.VolumeShort sizes length) chosen = absurd (cc (chosen))
names_short (Err fault) refusal chosen = tt

-- and nor is the file of the sizes
pub sizes_name_none : (found : Result (Option (Vec ℕ Global)) FileFault) (refusal : Refusal)
    → TakesSizes found (Err refusal) → NamesShort refusal
sizes_name_none (Ok None) refusal taken = absurd taken
sizes_name_none (Ok (Some bytes)) (refusals.VolumeShort sizes length) taken =
    absurd (cc (taken.0))
sizes_name_none (Err files.Failed) (refusals.VolumeShort sizes length) taken = absurd (cc (taken))
sizes_name_none (Err files.NoMemory) (refusals.VolumeShort sizes length) taken = absurd (cc (taken))
sizes_name_none found refusal taken = tt
