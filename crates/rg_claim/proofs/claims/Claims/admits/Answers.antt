use Rattle.std.proofs.Common.{◌<◌, length, arith, ap, ◌∙◌}
use Rattle.std.specs.FinMap as map
use Rattle.rg_claim.specs.ClaimState.{ClaimState}
use Rattle.rg_claim.specs.Classes.{classes_of}
use Rattle.rg_claim.proofs.ClaimSlots.{claims-read}
use Rattle.rg_claim.proofs.claims.Claims.admits.Goals as goal
use Rattle.rg_model.specs.Claims.{is_kept_out}

pub returns-then-refuses : goal.returns-then-refuses
returns-then-refuses c =
    let within : c.slot_of.result < length c.self.inside.slots.items =
    omega (arith, c.self.invariant.len, c.self.inside.slots.ok.0) in
    let read = claims-read c.self.inside.slots.items c.slot_of.result c.args.session.0
    c.slot_of.ensures within c.index.result.now c.index.ensures in
    c.if-refuses.ensures
    ∙ ap (λ held. is_kept_out c.self.inside.drain held (classes_of c.args.class)) read
    ∙ ap
    (λ (seen : ClaimState). is_kept_out seen.drain (map.get seen.claims c.args.session.0)
    (classes_of c.args.class)) c.self.view_is

pub returns : goal.returns
returns c =
    let within : c.slot_of.result < length c.self.inside.slots.items =
    omega (arith, c.self.invariant.len, c.self.inside.slots.ok.0) in
    let read = claims-read c.self.inside.slots.items c.slot_of.result c.args.session.0
    c.slot_of.ensures within c.index.result.now c.index.ensures in
    c.if-refuses.ensures
    ∙ ap (λ held. is_kept_out c.self.inside.drain held (classes_of c.args.class)) read
    ∙ ap
    (λ (seen : ClaimState). is_kept_out seen.drain (map.get seen.claims c.args.session.0)
    (classes_of c.args.class)) c.self.view_is
