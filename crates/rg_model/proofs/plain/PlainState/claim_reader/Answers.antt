use Rattle.std.proofs.Common.{◌∙◌, sym, ap}
use Rattle.std.specs.FinMap as map
use Rattle.rg_model.specs.PlainState.{state_of}
use Rattle.rg_model.specs.State.{Claims}
use Rattle.rg_model.proofs.Changed.{claim-held}
use Rattle.rg_model.proofs.plain.PlainState.claim_reader.Goals as goal

pub returns-then-contains_key-clause-ok : goal.returns-then-contains_key-clause-ok
returns-then-contains_key-clause-ok c =
    let plain = c.args.self.now in
    ap (λ (claims : Claims). record (state_of plain) { claims = claims })
    (sym (claim-held plain.claims c.args.session.0
    (ap (map.contains_key plain.claims) (sym c.from-number.ensures)
    ∙ sym c.if-contains_key.ensures)))
