use Rattle.std.proofs.Common.{◌≡◌, ℕ, arith, refl, sym, ◌∙◌, ap, subst}
use Rattle.std.specs.Prelude.{IsTrue}
use Rattle.rg_record.specs.declared.record.Kind.{Kind}
use Rattle.rg_image.specs.Meaning.{Current, current_of}
use Rattle.rg_image.specs.Rules.{KindFollows, not_undone}
use Rattle.rg_check.specs.Chain.Running.{Running, unit_at}
use Rattle.rg_check.specs.Chain.Kept.{AreDone}
use Rattle.rg_check.specs.declared.chain.unit.Unit.{Unit}
use Rattle.rg_check.proofs.ChainLemmas.Units.{unit_is, top_within}
use Rattle.rg_check.proofs.chain.chain.Chain.kind_follows.Goals as goal

pub undoes-requires : goal.undoes-requires
undoes-requires c =
    let of_tran = (c.if-is_of_unit.ensures c.args.before.now c.requires).0 refl in
    let done =
    (unit_is c.args.before.now c.args.self.now.units c.args.self.now.owed c.requires.units
    c.args.entry.now.tran.0 of_tran.some).done in
    omega (arith, ap (λ (u : Unit). u.top) c.unit.ensures.is, top_within _ _ _ done)

pub returns-then-is_of_unit : goal.returns-then-is_of_unit
returns-then-is_of_unit c =
    let of_tran = (c.if-is_of_unit.ensures c.args.before.now c.requires).0 refl in
    let unit = unit_is c.args.before.now c.args.self.now.units c.args.self.now.owed c.requires.units
    c.args.entry.now.tran.0 of_tran.some in
    let top : c.unit.result.top ≡ (unit_at c.args.self.now.units c.args.entry.now.tran.0).top =
    ap (λ (u : Unit). u.top) c.unit.ensures.is in
    let says = c.undoes.ensures (not_undone c.args.entry.now.tran.0 c.args.before.now)
    (subst
    (λ (k : ℕ). AreDone c.args.before.now k (not_undone c.args.entry.now.tran.0 c.args.before.now))
    (sym top) unit.done) in
    subst
    (λ (k : Kind). (IsTrue c.undoes.result → KindFollows c.args.before.now c.args.entry.now k)
    × (KindFollows c.args.before.now c.args.entry.now k → IsTrue c.undoes.result))
    (sym c.in-Undo.is)
    (λ yes_. (of_tran, says.0 yes_), λ follows. says.1 follows.1)

pub returns-then-copy-number : goal.returns-then-copy-number
returns-then-copy-number c =
    let says = c.none_is_open.ensures c.args.before.now c.requires in
    let copy : c.self.inside.copy ≡ (current_of c.args.before.now).copy =
    ap (λ (r : Running). r.current.copy) c.self.view_is
    ∙ ap (λ (x : Current). x.copy) c.requires.current in
    subst
    (λ (k : Kind). (IsTrue c.none_is_open.result → KindFollows c.args.before.now c.args.entry.now k)
    × (KindFollows c.args.before.now c.args.entry.now k → IsTrue c.none_is_open.result))
    (sym c.in-Switch.is) (
      λ yes_. (
        (λ same. c.if-copy-number.true (same ∙ sym copy ∙ sym c.number.ensures.is)),
        says.0 yes_,
      ),
      λ follows. says.1 follows.1,
    )
