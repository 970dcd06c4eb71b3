use Rattle.std.proofs.Common.{◌≡◌, ◌∙◌, sym, ap, subst}
use Rattle.std.specs.FinMap as map
use Rattle.rg_judge.specs.Table.Sets.{Sets, IsTakenOut}
use Rattle.rg_judge.proofs.TableLemmas.SetsKept.{taken_out, taken_none}
use Rattle.rg_judge.proofs.table.key_sets.KeySets.take_out.Goals as goal

pub returns-in_default : goal.returns-in_default
returns-in_default c =
    let old = c.args.self.now.sets in
    subst (λ (new : Sets). IsTakenOut old new c.args.number c.args.key)
    (sym c.in_default.ensures.removed)
    (taken_none old c.args.number c.args.key (sym c.in_default.ensures.before))

pub returns : goal.returns
returns c =
    let old = c.args.self.now.sets in
    let number = c.args.number in
    let key = c.args.key in
    let is : c.insert.new.self
    ≡ map.insert (map.remove old number) number (map.remove c.in-Some.set key) =
    c.in_ok-insert.ensures.ok
    ∙ ap (λ (sets : Sets). map.insert sets number c.remove-2.new.self) c.in-Some.ensures.removed
    ∙ ap (map.insert (map.remove old number) number) c.remove-2.ensures.removed in
    subst (λ (new : Sets). IsTakenOut old new number key) (sym is)
    (taken_out old number key c.in-Some.set (sym c.in-Some.ensures.before))
