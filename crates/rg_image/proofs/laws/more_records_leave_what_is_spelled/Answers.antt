use Rattle.rg_image.proofs.Grow.{spells_more}
use Rattle.rg_image.proofs.laws.more_records_leave_what_is_spelled.Goals as goal

pub returns : goal.returns
returns c = spells_more
