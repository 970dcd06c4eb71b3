use Rattle.rg_image.proofs.Chains.{one_page}
use Rattle.rg_image.proofs.laws.one_page_breaks_the_chain.Goals as goal

pub returns : goal.returns
returns c = λ capacities page other rs. one_page capacities rs page other
