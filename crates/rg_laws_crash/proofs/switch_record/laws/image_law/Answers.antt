use Rattle.rg_laws_crash.proofs.SwitchRecordLemmas.Switching.{switch_left}
use Rattle.rg_laws_crash.proofs.switch_record.laws.image_law.Goals as goal

pub returns : goal.returns
returns c = λ capacities limit rs copy pages s i can has. switch_left capacities limit rs copy pages
    s can i has
