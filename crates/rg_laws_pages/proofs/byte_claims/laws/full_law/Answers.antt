use Rattle.std.proofs.Common.{suc}
use Rattle.rg_laws_pages.proofs.ByteClaimsLemmas.Pages.{claimed_all-used}
use Rattle.rg_laws_pages.proofs.ByteClaimsLemmas.Full.{full_bound, no_change, no_put}
use Rattle.rg_laws_pages.proofs.ByteClaimsLemmas.Bound.{full_top}
use Rattle.rg_laws_pages.proofs.byte_claims.laws.full_law.Goals as goal

pub returns-clause-opened : goal.returns-clause-opened
returns-clause-opened c holds pages sound = claimed_all-used holds pages (λ k. sound.fits (suc k))

pub returns-clause-bound : goal.returns-clause-bound
returns-clause-bound c holds live b capacity pages covers small within none =
    full_bound holds live covers b capacity pages small within none

pub returns-clause-top : goal.returns-clause-top
returns-clause-top c holds live opening more small b capacity pages covers row least within claims
    none =
    full_top holds live covers opening more small capacity b pages row least within claims none

pub returns-clause-lack : goal.returns-clause-lack
returns-clause-lack c live b capacity pages =
    (no_put live b capacity pages, no_change live b capacity pages)
