use Rattle.rg_image.proofs.Chains.{kept_or_broken}
use Rattle.rg_image.proofs.laws.chains_are_kept_or_broken.Goals as goal

pub returns : goal.returns
returns c = λ capacities page rs. kept_or_broken capacities rs page
