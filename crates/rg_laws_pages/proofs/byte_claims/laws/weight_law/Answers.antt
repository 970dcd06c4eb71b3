use Rattle.rg_laws_pages.proofs.ByteClaimsLemmas.Weight.{all_rows_claim, change_weight}
use Rattle.rg_laws_pages.proofs.ByteClaimsLemmas.Weight.{change_elsewhere}
use Rattle.rg_laws_pages.proofs.byte_claims.laws.weight_law.Goals as goal

pub returns-clause-rows : goal.returns-clause-rows
returns-clause-rows c holds pages proper = all_rows_claim holds pages proper

pub returns-clause-change : goal.returns-clause-change
returns-clause-change c at after home row n k changes =
    (change_weight at after home row changes n k, change_elsewhere at after home row changes n k)
