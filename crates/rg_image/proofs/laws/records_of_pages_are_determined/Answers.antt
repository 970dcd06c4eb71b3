use Rattle.rg_image.proofs.Determined.{same_records}
use Rattle.rg_image.proofs.laws.records_of_pages_are_determined.Goals as goal

pub returns : goal.returns
returns c = λ capacity rs others i a b. same_records capacity i rs others a b
