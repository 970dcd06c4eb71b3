use Rattle.rg_image.proofs.Sound.{spelled_sound, spelled_tidy}
use Rattle.rg_image.proofs.laws.spelled_logs_are_sound.Goals as goal

pub returns-clause-pages : goal.returns-clause-pages
returns-clause-pages c = spelled_sound

pub returns-clause-tidy : goal.returns-clause-tidy
returns-clause-tidy c = spelled_tidy
