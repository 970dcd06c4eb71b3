use Rattle.std.proofs.Common.{◌<◌, length, arith, subst, ap, ◌∙◌}
use Rattle.std.specs.FinMap as map
use Rattle.rg_claim.specs.Sessions.{HasSessions}
use Rattle.rg_claim.proofs.ClaimSlots.{claims-read, claims-within}
use Rattle.rg_claim.proofs.claims.Claims.held.Goals as goal

pub returns-clause-held : goal.returns-clause-held
returns-clause-held c =
    let within : c.slot_of.result < length c.self.inside.slots.items =
    omega (arith, c.self.invariant.len, c.self.inside.slots.ok.0) in
    claims-read c.self.inside.slots.items c.slot_of.result c.args.session.0 c.slot_of.ensures within
    c.index.result.now c.index.ensures
    ∙ ap (λ seen. map.get seen.claims c.args.session.0) c.self.view_is

pub returns-clause-sessions : goal.returns-clause-sessions
returns-clause-sessions c =
    subst (λ seen. HasSessions seen.claims) c.self.view_is
    (λ session there.
    let within = claims-within c.self.inside.slots.items session.0 there in
    record {
      least = within.0;
      most = omega (arith, within.1, c.self.invariant.len, c.self.inside.slots.ok.0);
    })
