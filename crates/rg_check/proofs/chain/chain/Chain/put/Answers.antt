use Rattle.std.proofs.Common.{◌≡◌, ◌<◌, ◌-◌, List, get_or, length, arith, ◌∙◌, ap}
use Rattle.std.proofs.lemmas.List.{get_or_default}
use Rattle.rg_check.specs.Chain.Running.{Running, unit_at, no_unit}
use Rattle.rg_check.specs.declared.chain.unit.Unit.{Unit}
use Rattle.rg_check.proofs.chain.chain.Chain.put.Goals as goal

pub owed-requires : goal.owed-requires
owed-requires c =
    let items : c.self.inside.units.items ≡ c.args.self.now.units =
    ap (λ (r : Running). r.units) c.self.view_is in
    let there : c.args.tran.0 - 1 < length c.self.inside.units.items =
    omega (arith, c.if-at-len.true, c.len.ensures, c.self.inside.units.ok.0) in
    let same : c.index.result.now ≡ unit_at c.args.self.now.units c.args.tran.0 =
    c.index.ensures
    ∙ get_or_default c.self.inside.units.items (c.args.tran.0 - 1) c.index.result.now no_unit there
    ∙ ap (λ (l : List Unit). get_or l (c.args.tran.0 - 1) no_unit) items in
    omega (arith, ap (λ (u : Unit). u.left) same, c.requires.few)
