use Rattle.std.proofs.Common.{refl, sym, ◌∙◌, ap}
use Rattle.std.proofs.lemmas.Bool.{not-true, not_from_false}
use Rattle.rg_check.specs.declared.chain.unit.Unit.{Unit}
use Rattle.rg_check.proofs.ChainLemmas.Units.{unit_is}
use Rattle.rg_check.proofs.chain.chain.Chain.is_forward.Goals as goal

pub returns-then-is_of_unit : goal.returns-then-is_of_unit
returns-then-is_of_unit c =
    let of_tran = (c.if-is_of_unit.ensures c.args.before.now c.requires).0 refl in
    let unit = unit_is c.args.before.now c.args.self.now.units c.args.self.now.owed c.requires.units
    c.args.entry.now.tran.0 of_tran.some in
    let undoing = ap (λ (u : Unit). u.undoing) c.unit.ensures.is ∙ unit.undoing in (
      λ is. (of_tran, sym undoing ∙ not-true c.unit.result.undoing is),
      λ follows. not_from_false c.unit.result.undoing (undoing ∙ follows.1),
    )
