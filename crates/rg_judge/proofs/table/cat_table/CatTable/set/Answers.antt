use Rattle.std.proofs.Common.{sym, subst, Option}
use Rattle.std.specs.FinMap as map
use Rattle.rg_base.specs.declared.row.Row.{Row}
use Rattle.rg_model.specs.State.{Table}
use Rattle.rg_judge.specs.Table.Cats.{AreCats, IsListed, IsStruck}
use Rattle.rg_judge.proofs.TableLemmas.CatsKept.{cats-set}
use Rattle.rg_judge.proofs.table.cat_table.CatTable.set.Goals as goal

pub invariant_of-result : goal.invariant_of-result
invariant_of-result c =
    let one = c.strike.new.self.sets in
    let two = c.list.new.self.sets in
    let put : IsListed one two c.args.key c.args.row =
    subst (λ (row : Option Row). IsListed one two c.args.key row) c.as_ref.ensures.value
    c.in_ok-list.ensures in
    let out : IsStruck c.self.inside.cats.sets one c.args.key
    (map.get c.self.inside.rows c.args.key) =
    subst (λ (row : Option Row). IsStruck c.self.inside.cats.sets one c.args.key row) c.get.ensures
    c.in_ok-strike.ensures in
    subst (λ (rows : Table). AreCats rows two) (sym c.in_ok-before.ensures.set)
    (cats-set c.self.inside.rows c.self.inside.cats.sets one two c.args.key c.args.row
    c.self.invariant out put)
