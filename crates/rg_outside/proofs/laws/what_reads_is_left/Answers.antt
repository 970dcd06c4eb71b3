use Rattle.rg_outside.specs.Moments.{moment}
use Rattle.rg_outside.proofs.Every.{read_image}
use Rattle.rg_outside.proofs.laws.what_reads_is_left.Goals as goal

pub returns : goal.returns
returns c = λ told n. read_image (moment told n)
