use Rattle.std.proofs.Common.{◌<◌, length, arith, sym, subst, ap, ◌∙◌}
use Rattle.std.specs.FinMap as map
use Rattle.rg_claim.specs.ClaimState.{ClaimState}
use Rattle.rg_claim.specs.Drains.{GrantIsKept}
use Rattle.rg_claim.specs.Slots.{state_of}
use Rattle.rg_claim.proofs.ClaimSlots.{claims-remove}
use Rattle.rg_claim.proofs.Grants.{grant-release}
use Rattle.rg_claim.proofs.claims.Claims.release.Goals as goal

pub returns : goal.returns
returns c =
    let within : c.slot_of.result < length c.self.inside.slots.items =
    omega (arith, c.self.invariant.len, c.self.inside.slots.ok.0) in
    let removed = claims-remove c.self.inside.slots.items c.slot_of.result c.args.session.0
    c.slot_of.ensures within in
    ap (λ claims. record { claims = claims; drain = c.self.inside.drain }) removed
    ∙ ap
    (λ (seen : ClaimState).
    record { claims = map.remove seen.claims c.args.session.0; drain = seen.drain }) c.self.view_is

pub invariant_of-self : goal.invariant_of-self
invariant_of-self c =
    let items = c.self.inside.slots.items in
    let within : c.slot_of.result < length c.self.inside.slots.items =
    omega (arith, c.self.invariant.len, c.self.inside.slots.ok.0) in
    let removed = claims-remove items c.slot_of.result c.args.session.0 c.slot_of.ensures within in
    record {
      len = c.self.invariant.len;
      grant =
          subst (λ claims. GrantIsKept (record { claims = claims; drain = c.self.inside.drain }))
          (sym removed)
          (grant-release (state_of items c.self.inside.drain) c.self.invariant.grant
          c.args.session.0);
    }
