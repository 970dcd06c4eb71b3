-- Claims with a drain.
use Rattle.std.specs.Prelude.{refl}
use Rattle.std.specs.Coded.{Coded, code_by, coded×, coded_ℕ}
use Rattle.std.specs.FinMap as map
use Rattle.rg_base.specs.contracts.options.DrainState as drains
use Rattle.rg_base.specs.contracts.session.Class as classes
use Rattle.rg_base.specs.declared.options.DrainState.{DrainState}
use Rattle.rg_base.specs.declared.options.DrainState.TheVariants.{Free}
use Rattle.rg_model.specs.State.{Claims}

-- the claims of sessions by their numbers, and the drain
pub record ClaimState : Type 0 where
  pub claims : Claims
  pub drain : DrainState

-- nobody has a claim, and no drain is in force
abbrev pub no_claims : ClaimState
no_claims = record { claims = map.empty; drain = Free }

-- it is stored as the pair of its fields
abbrev pub claim_state_code : Coded ClaimState
claim_state_code =
    code_by (Claims × DrainState)
    (coded× (map.code coded_ℕ classes.the_row.coded) drains.the_row.coded)
    (λ seen. (seen.claims, seen.drain))
    (λ pair. record { claims = pair.0; drain = pair.1 })
    (λ _. refl)
