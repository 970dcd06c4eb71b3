use Rattle.std.proofs.Common.{◌∙◌, ap}
use Rattle.std.specs.FinMap as map
use Rattle.rg_base.specs.declared.session.Class.TheVariants.{Writer}
use Rattle.rg_model.specs.PlainState.{state_of}
use Rattle.rg_model.proofs.Changed.{contains_key-insert, given_back}
use Rattle.rg_model.proofs.plain.PlainState.put.Goals as goal

pub give_back-requires : goal.give_back-requires
give_back-requires c =
    ap (λ claims. map.contains_key claims c.from-number.result) c.in_ok-before.ensures.ok
    ∙ contains_key-insert c.args.self.now.claims c.from-number.result Writer

-- the claim from before is given back
pub returns-in-Err-clause-err : goal.returns-in-Err-clause-err
returns-in-Err-clause-err c =
    let plain = c.args.self.now in
    let claims = given_back plain.claims c.from-number.result Writer c.in_ok-before.before
    c.insert.new.self c.give_back.new.claims
    c.in_ok-before.ensures.ok c.in_ok-before.ensures.before c.give_back.ensures.gone
    c.give_back.ensures.back in
    λ i. record (state_of plain) { table = c.in-Err.ensures.err i; claims = claims i }
