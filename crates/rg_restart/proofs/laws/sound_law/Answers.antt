use Rattle.rg_restart.proofs.Exact.{sound_breaks_none}
use Rattle.rg_restart.proofs.laws.sound_law.Goals as goal

pub returns : goal.returns
returns c = λ capacities i set page sound damage. sound_breaks_none capacities i set page sound.0
    sound.1 sound.2 damage
