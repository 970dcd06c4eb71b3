use Rattle.rg_claim.proofs.Grants.{no_claim_under_all}
use Rattle.rg_claim.proofs.laws.drain_for_all_leaves_no_claim.Goals as goal

pub returns : goal.returns
returns c = no_claim_under_all
