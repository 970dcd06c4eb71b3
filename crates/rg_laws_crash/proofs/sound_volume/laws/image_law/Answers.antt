use Rattle.rg_laws_crash.proofs.SoundVolumeLemmas.Imaged.{image_sound}
use Rattle.rg_laws_crash.proofs.SoundVolumeLemmas.Owners.{image_owners}
use Rattle.rg_laws_crash.proofs.sound_volume.laws.image_law.Goals as goal

pub returns-clause-sound : goal.returns-clause-sound
returns-clause-sound c capacities e rs forced n i left can =
    image_sound capacities e rs forced n i left can

pub returns-clause-owners : goal.returns-clause-owners
returns-clause-owners c capacities e rs forced n i left can low =
    image_owners capacities e rs forced n i left can low
