use Rattle.std.proofs.Common.{suc}
use Rattle.rg_laws_pages.proofs.ByteClaimsLemmas.Pages.{claimed_all-fewer}
use Rattle.rg_laws_pages.proofs.ByteClaimsLemmas.Owners.{covers, begins, ends, switched}
use Rattle.rg_laws_pages.proofs.byte_claims.laws.holders_law.Goals as goal

pub returns-clause-fewer : goal.returns-clause-fewer
returns-clause-fewer c before after pages fewer = claimed_all-fewer before after fewer pages

pub returns-clause-holders : goal.returns-clause-holders
returns-clause-holders c live next =
    (covers live next, begins live next, λ rest fewer. ends live rest next fewer)

pub returns-clause-switched : goal.returns-clause-switched
returns-clause-switched c next pages low owners =
    switched next low pages (λ k i. owners (record { page = suc k; slot = i }))
