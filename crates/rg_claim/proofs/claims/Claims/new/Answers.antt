use Rattle.std.proofs.Common.{ap, ◌∙◌, rules}
use Rattle.rg_base.specs.declared.options.DrainState.TheVariants.{Free}
use Rattle.rg_claim.specs.Slots.{claims_of}
use Rattle.rg_claim.proofs.ClaimSlots.{claims-none}
use Rattle.rg_claim.proofs.claims.Claims.new.Goals as goal

pub returns : goal.returns
returns c =
    let items = c.in_ok-vec.ensures.items_if_clones_equal (λ y is. search rules) in
    ap (λ claims. record { claims = claims; drain = Free }) (ap claims_of items ∙ claims-none 99)
