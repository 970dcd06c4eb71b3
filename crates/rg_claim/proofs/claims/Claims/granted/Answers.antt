use Rattle.std.proofs.Common.{refl, ◌∙◌}
use Rattle.rg_claim.specs.Slots.{state_of}
use Rattle.rg_claim.proofs.ClaimSlots.{least-claims}
use Rattle.rg_claim.proofs.Grants.{grants}
use Rattle.rg_claim.proofs.claims.Claims.granted.Goals as goal

pub returns-in-Some-clause-blocked : goal.returns-in-Some-clause-blocked
returns-in-Some-clause-blocked c =
    c.in-Some.ensures.least
    ∙ least-claims c.self.inside.slots.items c.deref.result.now c.self.inside.drain c.args.self.now
    c.self.view_is c.deref.ensures.value

pub returns-in-None-clause-blocked : goal.returns-in-None-clause-blocked
returns-in-None-clause-blocked c =
    c.in-None.ensures.least
    ∙ least-claims c.self.inside.slots.items c.deref.result.now c.self.inside.drain c.args.self.now
    c.self.view_is c.deref.ensures.value

pub invariant_of-self : goal.invariant_of-self
invariant_of-self c =
    let seen = state_of c.self.inside.slots.items c.self.inside.drain in
    record {
      len = c.self.invariant.len;
      grant = rw c.grant-self-inside.ensures (grants seen c.self.invariant.grant
          (c.in-None.ensures.least
          ∙ least-claims c.self.inside.slots.items c.deref.result.now c.self.inside.drain seen refl
          c.deref.ensures.value));
    }
