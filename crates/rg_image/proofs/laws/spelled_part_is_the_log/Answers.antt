use Rattle.rg_image.proofs.Entries.{all_fit, are_values}
use Rattle.rg_image.proofs.Decode.{some_log}
use Rattle.rg_image.proofs.laws.spelled_part_is_the_log.Goals as goal

pub returns : goal.returns
returns c = λ capacity low rs i entries high spells.
    some_log capacity low rs i (all_fit rs entries) (are_values rs entries) (λ some. high) spells
