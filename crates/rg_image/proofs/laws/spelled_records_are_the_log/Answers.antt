use Rattle.rg_image.proofs.Entries.{all_fit, are_values}
use Rattle.rg_image.proofs.Decode.{log_is}
use Rattle.rg_image.proofs.laws.spelled_records_are_the_log.Goals as goal

pub returns : goal.returns
returns c = λ capacity rs i entries high spells.
    log_is capacity rs i (all_fit rs entries) (are_values rs entries) (λ some. high) spells
