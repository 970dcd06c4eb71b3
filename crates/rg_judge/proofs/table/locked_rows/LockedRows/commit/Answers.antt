use Rattle.std.proofs.Common.{refl, sym, ◌∙◌, ap}
use Rattle.std.specs.FinMap as map
use Rattle.rg_model.specs.State.{Locks}
use Rattle.rg_judge.specs.Table.Owners.{Owners, is_held_in, holds_cat}
use Rattle.rg_judge.proofs.TableLemmas.Ended.{held-ended}
use Rattle.rg_judge.proofs.table.locked_rows.LockedRows.commit.Goals as goal

pub invariant_of-result : goal.invariant_of-result
invariant_of-result c = λ n cat q.
    let table = c.self.inside.table in
    let locks = c.self.inside.locks in
    let owners = c.self.inside.held.owners in
    ap (λ (o : Owners). is_held_in o n cat q) c.end-2.ensures
    ∙ held-ended table table locks owners c.self.invariant c.args.session
    (λ q kept there others. refl) n cat q
    ∙ sym (ap (λ (l : Locks). holds_cat (map.get l q) (map.get table q) n cat) c.end.ensures)
