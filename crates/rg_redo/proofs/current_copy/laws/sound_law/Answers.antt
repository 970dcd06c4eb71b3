use Rattle.rg_redo.specs.Redo.{redone_all}
use Rattle.rg_redo.proofs.CurrentCopyLemmas.Sounding.{all_sound, are_sound, records_sound}
use Rattle.rg_redo.proofs.current_copy.laws.sound_law.Goals as goal

pub returns : goal.returns
returns c = λ rs pages fits sound. are_sound (redone_all rs pages)
    (records_sound rs pages fits (all_sound pages sound))
