use Rattle.rg_translate.proofs.RightCopyLemmas.Taking.{caught_claims, full_sent}
use Rattle.rg_translate.proofs.right_copy.laws.claim_law.Goals as goal

pub returns-clause-claims : goal.returns-clause-claims
returns-clause-claims c = caught_claims

pub returns-clause-full : goal.returns-clause-full
returns-clause-full c = full_sent
