use Rattle.rg_image.proofs.Rules.{log_is_read}
use Rattle.rg_image.proofs.laws.sound_pages_have_the_log.Goals as goal

pub returns : goal.returns
returns c = λ capacity rs i has. log_is_read capacity i rs has
