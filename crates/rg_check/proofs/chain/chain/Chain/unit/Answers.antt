use Rattle.std.proofs.Common.{◌≡◌, ◌-◌, length, arith, sym, ◌∙◌, ap, subst}
use Rattle.std.proofs.Math.ListN.{get_or-eq_default}
use Rattle.rg_check.specs.Chain.Running.{Running, no_unit, unit_at}
use Rattle.rg_check.specs.Chain.Kept.{IsUnit}
use Rattle.rg_check.proofs.ChainLemmas.Units.{unit_is}
use Rattle.rg_check.proofs.chain.chain.Chain.unit.Goals as goal

pub returns-else-at-len-clause-unit : goal.returns-else-at-len-clause-unit
returns-else-at-len-clause-unit c = λ before kept.
    let units = c.args.self.now.units in
    let len : length c.self.inside.units.items ≡ length units =
    ap (λ (r : Running). length r.units) c.self.view_is in
    let none : unit_at units c.args.tran.0 ≡ no_unit =
    get_or-eq_default units no_unit {n = c.args.tran.0 - 1}
    (omega (arith, c.if-at-len.false, c.len.ensures, c.self.inside.units.ok.0, len)) in
    subst (IsUnit before c.args.tran.0) (none ∙ sym c.none.ensures)
    (unit_is before units c.args.self.now.owed kept.units c.args.tran.0 c.requires)
