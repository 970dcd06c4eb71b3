use Rattle.rg_laws_crash.proofs.SoundVolumeLemmas.Appending.{appended_reopens}
use Rattle.rg_laws_crash.proofs.SoundVolumeLemmas.Reopening.{stands_reopens}
use Rattle.rg_laws_crash.proofs.SoundVolumeLemmas.Standing.{stands_more}
use Rattle.rg_laws_crash.proofs.sound_volume.laws.reopen_law.Goals as goal

pub returns-clause-more : goal.returns-clause-more
returns-clause-more c limit e rs entry s stands g lawful next other near =
    stands_more limit e rs entry s stands g lawful next other near

pub returns-clause-reopens : goal.returns-clause-reopens
returns-clause-reopens c capacities limit e rs s stands g clean tells same chain space =
    stands_reopens capacities limit e rs s stands g clean tells same chain space

pub returns-clause-appended : goal.returns-clause-appended
returns-clause-appended c capacities limit e rs more s are n =
    appended_reopens capacities limit e rs more s are n
