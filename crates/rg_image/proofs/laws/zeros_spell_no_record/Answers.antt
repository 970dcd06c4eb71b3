use Rattle.rg_image.proofs.Grow.{zero_spells}
use Rattle.rg_image.proofs.laws.zeros_spell_no_record.Goals as goal

pub returns : goal.returns
returns c = zero_spells
