use Rattle.rg_image.proofs.Determined.{not_both}
use Rattle.rg_image.proofs.laws.log_pages_are_kept_or_broken.Goals as goal

pub returns : goal.returns
returns c = λ capacity page rs i has broken. not_both capacity page i rs has broken
