use Rattle.std.proofs.Common.{◌∙◌}
use Rattle.rg_claim.proofs.ClaimSlots.{least-claims}
use Rattle.rg_claim.proofs.claims.Claims.holder.Goals as goal

pub returns-clause-holder : goal.returns-clause-holder
returns-clause-holder c =
    c.find_holder.ensures.least
    ∙ least-claims c.self.inside.slots.items c.deref.result.now c.self.inside.drain c.args.self.now
    c.self.view_is c.deref.ensures.value
