use Rattle.rg_laws_crash.proofs.SoundVolumeLemmas.Closings.{closings_reopen, closings_tell}
use Rattle.rg_laws_crash.proofs.sound_volume.laws.closing_law.Goals as goal

pub returns-clause-reopens : goal.returns-clause-reopens
returns-clause-reopens c capacities e rs pages may n low high =
    closings_reopen capacities e rs pages may may.proper n low high

pub returns-clause-tells : goal.returns-clause-tells
returns-clause-tells c capacities e rs pages may = closings_tell capacities e rs pages may
