use Rattle.std.proofs.Common.{◌∙◌, subst}
use Rattle.rg_base.specs.Start.{start_of}
use Rattle.rg_model.specs.State.{Table}
use Rattle.rg_judge.specs.Table.Cats.{AreCats}
use Rattle.rg_judge.proofs.TableLemmas.Listing.{keys-go, keys-end}
use Rattle.rg_judge.proofs.table.cat_table.CatTable.keys_with_cat.Goals as goal

pub loop-key-preserved : goal.loop-key-preserved
loop-key-preserved c =
    let sets = c.self.inside.cats.sets in
    let are = subst (λ (rows : Table). AreCats rows sets) c.self.view_is c.self.invariant in
    rw c.in_ok-push.ensures.items
    (keys-go c.args.cat c.args.self.now sets are c.loop-key.keys.items (start_of c.loop-key.last)
    c.loop-key.invariant c.in-Some.key c.in-Some.ensures)

pub returns : goal.returns
returns c =
    let sets = c.self.inside.cats.sets in
    let are = subst (λ (rows : Table). AreCats rows sets) c.self.view_is c.self.invariant in
    c.new.ensures
    ∙ keys-end c.args.cat c.args.self.now sets are c.loop-key.keys.items (start_of c.loop-key.last)
    c.loop-key.invariant c.in_default.ensures
