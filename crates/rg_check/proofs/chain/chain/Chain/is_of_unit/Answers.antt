use Rattle.std.proofs.Common.{◌≡◌, ◌≤◌, ◌+◌, true, false, length, arith, sym, ◌∙◌}
use Rattle.std.proofs.Common.{ap}
use Rattle.std.proofs.lemmas.Bool.{eqb-true, not-true, not_from_false}
use Rattle.rg_check.specs.Chain.Running.{Running, unit_at}
use Rattle.rg_check.specs.declared.chain.unit.Unit.{Unit}
use Rattle.rg_check.proofs.ChainLemmas.Units.{of_unit, is_drawn, is_back, is_going}
use Rattle.rg_check.proofs.chain.chain.Chain.is_of_unit.Goals as goal
use Rattle.rg_check.proofs.chain.chain.Chain.is_of_unit.Goals.{then-tran-eq0-via-then-tran-eq0}
use Rattle.rg_check.proofs.chain.chain.Chain.is_of_unit.Goals.{
  then-tran-eq0-via-else-tran-eq0+then-tran-len,
}

pub returns-then-tran-eq0 : goal.returns-then-tran-eq0
returns-then-tran-eq0 c = λ before kept. (
  λ is. absurd (cc (is)),
  λ is. elim c.then-tran-eq0.branch [
    | then-tran-eq0-via-then-tran-eq0 w ↦ absurd (omega (arith, is.some, w.if-tran-eq0.true))
    | then-tran-eq0-via-else-tran-eq0+then-tran-len w ↦
        let len : length c.self.inside.units.items ≡ length c.args.self.now.units =
        ap (λ (r : Running). length r.units) c.self.view_is in
        absurd
        (omega (
          arith,
          is_drawn before c.args.self.now.units c.args.self.now.owed kept.units c.args.entry.now is,
          w.if-tran-len.true,
          w.len.ensures,
          c.self.inside.units.ok.0,
          len,
        ))
  ],
)

pub returns-then-entry-unit : goal.returns-then-entry-unit
returns-then-entry-unit c = λ before kept.
    let len : length c.self.inside.units.items ≡ length c.args.self.now.units =
    ap (λ (r : Running). length r.units) c.self.view_is in
    let low : 1 ≤ c.args.entry.now.tran.0 = omega (arith, c.if-tran-eq0.false) in
    let high : c.args.entry.now.tran.0 ≤ length c.args.self.now.units + 1 =
    omega (arith, c.if-tran-len.false, c.len.ensures, c.self.inside.units.ok.0, len) in
    let unit : c.unit-unit.result ≡ unit_at c.args.self.now.units c.args.entry.now.tran.0 =
    c.unit-unit.ensures.is in (
      λ is. of_unit before c.args.self.now.units c.args.self.now.owed kept.units c.args.entry.now
          low high (c.if-entry-unit.true ∙ ap (λ (u : Unit). u.last) unit)
          (sym (ap (λ (u : Unit). u.ended) unit) ∙ not-true c.unit-unit.result.ended is),
      λ is. not_from_false c.unit-unit.result.ended
          (ap (λ (u : Unit). u.ended) unit
          ∙ is_going before c.args.self.now.units c.args.self.now.owed kept.units c.args.entry.now
          is),
    )

pub returns-else-entry-unit : goal.returns-else-entry-unit
returns-else-entry-unit c = λ before kept.
    let unit : c.unit-unit.result ≡ unit_at c.args.self.now.units c.args.entry.now.tran.0 =
    c.unit-unit.ensures.is in (
      λ is. absurd
          (c.if-entry-unit.false (eqb-true c.args.entry.now.back.0 c.unit-unit.result.last is)),
      λ is. absurd
          (c.if-entry-unit.false
          (is_back before c.args.self.now.units c.args.self.now.owed kept.units c.args.entry.now is
          ∙ sym (ap (λ (u : Unit). u.last) unit))),
    )
