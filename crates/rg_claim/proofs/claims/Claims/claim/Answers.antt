use Rattle.std.proofs.Common.{◌<◌, length, sym, ap, ◌∙◌, arith, subst}
use Rattle.std.specs.FinMap as map
use Rattle.rg_claim.specs.ClaimState.{ClaimState}
use Rattle.rg_claim.specs.Classes.{classes_of}
use Rattle.rg_claim.specs.Drains.{GrantIsKept}
use Rattle.rg_claim.specs.Slots.{claims_of, state_of}
use Rattle.rg_claim.proofs.Admission.{claims_with-insert}
use Rattle.rg_claim.proofs.ClaimSlots.{claims-insert, claims-read}
use Rattle.rg_claim.proofs.Grants.{grant-claim}
use Rattle.rg_claim.proofs.claims.Claims.claim.Goals as goal
use Rattle.rg_model.specs.Claims.{claims_with, is_kept_out}

pub returns-then-refuses-clause-drained : goal.returns-then-refuses-clause-drained
returns-then-refuses-clause-drained c =
    let within : c.slot_of-slot.result < length c.self.inside.slots.items =
    omega (arith, c.self.invariant.len, c.self.inside.slots.ok.0) in
    let read = claims-read c.self.inside.slots.items c.slot_of-slot.result c.args.session.0
    c.slot_of-slot.ensures within c.index-held.result.now c.index-held.ensures in
    c.if-refuses.ensures
    ∙ ap (λ held. is_kept_out c.self.inside.drain held (classes_of c.args.class)) read
    ∙ ap
    (λ (seen : ClaimState). is_kept_out seen.drain (map.get seen.claims c.args.session.0)
    (classes_of c.args.class)) c.self.view_is

pub returns-clause-drained : goal.returns-clause-drained
returns-clause-drained c =
    let within : c.slot_of-slot.result < length c.self.inside.slots.items =
    omega (arith, c.self.invariant.len, c.self.inside.slots.ok.0) in
    let read = claims-read c.self.inside.slots.items c.slot_of-slot.result c.args.session.0
    c.slot_of-slot.ensures within c.index-held.result.now c.index-held.ensures in
    c.if-refuses.ensures
    ∙ ap (λ held. is_kept_out c.self.inside.drain held (classes_of c.args.class)) read
    ∙ ap
    (λ (seen : ClaimState). is_kept_out seen.drain (map.get seen.claims c.args.session.0)
    (classes_of c.args.class)) c.self.view_is

pub returns-clause-ok : goal.returns-clause-ok
returns-clause-ok c =
    let items = c.self.inside.slots.items in
    let within : c.slot_of-slot.result < length c.self.inside.slots.items =
    omega (arith, c.self.invariant.len, c.self.inside.slots.ok.0) in
    let read = claims-read items c.slot_of-slot.result c.args.session.0 c.slot_of-slot.ensures
    within c.index-held.result.now c.index-held.ensures in
    let put =
    claims-insert items c.slot_of-slot.result c.args.session.0 c.slot_of-slot.ensures within
    c.claim_more.result ∙ ap (map.insert (claims_of items) c.args.session.0) c.claim_more.ensures in
    ap (λ claims. record { claims = claims; drain = c.self.inside.drain })
    (put
    ∙ claims_with-insert (claims_of items) c.args.session c.args.class c.index-held.result.now read)
    ∙ ap
    (λ (seen : ClaimState). record {
      claims = claims_with seen.claims c.args.session (classes_of c.args.class);
      drain = seen.drain;
    }) c.self.view_is

pub invariant_of-self : goal.invariant_of-self
invariant_of-self c =
    let items = c.self.inside.slots.items in
    let within : c.slot_of-slot.result < length c.self.inside.slots.items =
    omega (arith, c.self.invariant.len, c.self.inside.slots.ok.0) in
    let read = claims-read items c.slot_of-slot.result c.args.session.0 c.slot_of-slot.ensures
    within c.index-held.result.now c.index-held.ensures in
    let put =
    claims-insert items c.slot_of-slot.result c.args.session.0 c.slot_of-slot.ensures within
    c.claim_more.result ∙ ap (map.insert (claims_of items) c.args.session.0) c.claim_more.ensures in
    record {
      len = c.self.invariant.len;
      grant =
          subst (λ claims. GrantIsKept (record { claims = claims; drain = c.self.inside.drain }))
          (sym put)
          (grant-claim (state_of items c.self.inside.drain) c.self.invariant.grant c.args.session.0
          c.index-held.result.now c.args.class read (sym c.if-refuses.ensures));
    }
