use Rattle.std.proofs.Common.{sym, ◌∙◌, ap}
use Rattle.std.specs.FinMap as map
use Rattle.rg_model.specs.Committed.{locks_without, own_locks, put_back}
use Rattle.rg_model.specs.State.{Table, Locks}
use Rattle.rg_judge.specs.Table.Owners.{Owners, is_held_in, holds_cat}
use Rattle.rg_judge.proofs.TableLemmas.Ended.{held-ended, put_back-elsewhere}
use Rattle.rg_judge.proofs.table.locked_rows.LockedRows.rollback.Goals as goal

pub invariant_of-result : goal.invariant_of-result
invariant_of-result c = λ n cat q.
    let table = c.self.inside.table in
    let locks = c.self.inside.locks in
    let owners = c.self.inside.held.owners in
    let session = c.args.session in
    let after = put_back (map.entries (own_locks session locks)) table in
    ap (λ (o : Owners). is_held_in o n cat q) c.end.ensures
    ∙ held-ended table after locks owners c.self.invariant session
    (put_back-elsewhere table locks session) n cat q
    ∙ sym (ap (λ (l : Locks). holds_cat (map.get l q) (map.get c.in_ok-table.table q) n cat)
    c.in_ok-table.ensures.locks
    ∙ ap (λ (t : Table). holds_cat (map.get (locks_without session locks) q) (map.get t q) n cat)
    c.in_ok-table.ensures.rows)
