use Rattle.std.proofs.Common.{◌≡◌, ◌∙◌, sym, ap, subst}
use Rattle.std.specs.FinMap as map
use Rattle.std.specs.Option.{option_copied}
use Rattle.rg_judge.specs.Table.Owners.{Owners, is_held_in, IsNoted}
use Rattle.rg_judge.proofs.TableLemmas.HeldKept.{noted}
use Rattle.rg_judge.proofs.table.held_cats.HeldCats.note.Goals as goal

pub returns : goal.returns
returns c =
    let old = c.args.self.now.owners in
    let number = c.args.owner.0 in
    let sets = c.list-2.new.self in
    let is : c.insert.new.self ≡ map.insert (map.remove old number) number sets =
    c.in_ok-insert.ensures.ok
    ∙ ap (λ (owners : Owners). map.insert owners c.from-number.result sets)
    c.take_sets-sets.ensures.taken
    ∙ ap (λ n. map.insert (map.remove old n) n sets) c.from-number.ensures in
    subst
    (λ (new : Owners). IsNoted old new number c.args.key (option_copied c.args.row)
    (option_copied c.args.committed)) (sym is) (noted old number c.args.key
    (option_copied c.args.present) (option_copied c.args.committed) (option_copied c.args.row)
    c.take_sets-sets.result.sets c.strike.new.self.sets c.strike-2.new.self.sets
    c.list.new.self.sets sets
    (λ cat q. c.take_sets-sets.ensures.sets cat q
    ∙ ap (λ n. is_held_in old n cat q) c.from-number.ensures) c.requires c.in_ok-strike.ensures
    c.in_ok-strike-2.ensures c.in_ok-list.ensures c.in_ok-list-2.ensures)
