use Rattle.rg_image.proofs.Tidy.{tidy_spells}
use Rattle.rg_image.proofs.laws.tidy_logs_are_spelled.Goals as goal

pub returns : goal.returns
returns c = λ capacity rs i has tidy. tidy_spells capacity i rs has tidy
