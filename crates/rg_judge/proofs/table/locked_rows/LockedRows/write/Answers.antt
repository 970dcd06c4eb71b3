use Rattle.std.proofs.Common.{◌≡◌, Option, sym, ◌∙◌, ap, subst}
use Rattle.std.specs.FinMap as map
use Rattle.std.specs.Option.{option_copied}
use Rattle.rg_base.specs.declared.row.Row.{Row}
use Rattle.rg_base.specs.declared.session.Session.{Session}
use Rattle.rg_lock.specs.Taken.{take_key}
use Rattle.rg_model.specs.Committed.{set_to}
use Rattle.rg_model.specs.State.{Table, Locks}
use Rattle.rg_judge.specs.Table.Owners.{AreHeld, IsNoted, committed_or, owner_or}
use Rattle.rg_judge.proofs.TableLemmas.HeldKept.{held-written}
use Rattle.rg_judge.proofs.table.locked_rows.LockedRows.write.Goals as goal

pub invariant_of-result : goal.invariant_of-result
invariant_of-result c =
    let table = c.self.inside.table in
    let locks = c.self.inside.locks in
    let owners = c.self.inside.held.owners in
    let new = c.note.new.self.owners in
    let session = c.args.session in
    let key = c.args.key in
    let row = c.args.row in
    let lock = map.get locks key in
    let committed : option_copied c.committed_or-committed.result
    ≡ committed_or lock (map.get table key) =
    c.committed_or-committed.ensures
    ∙ ap (committed_or lock)
    (c.get-present.ensures ∙ ap (λ (t : Table). map.get t key) c.rows.ensures) in
    let is_noted : IsNoted owners new (owner_or lock session).0 key row
    (committed_or lock (map.get table key)) =
    subst (λ (o : Session). IsNoted owners new o.0 key row (committed_or lock (map.get table key)))
    c.owner_or-owner.ensures (subst
    (λ (r : Option Row). IsNoted owners new c.owner_or-owner.result.0 key r
    (committed_or lock (map.get table key))) c.as_ref.ensures.value
    (subst
    (λ (r : Option Row). IsNoted owners new c.owner_or-owner.result.0 key
    (option_copied c.as_ref.result) r) committed c.in_ok-note.ensures)) in
    subst (λ (t : Table). AreHeld t c.lock.new.locks new) (sym c.in_ok-table.ensures.table)
    (subst (λ (l : Locks). AreHeld (set_to table key row) l new)
    (sym (c.in_ok-lock.ensures ∙ ap (take_key locks session key) c.in_ok-table.ensures.before))
    (held-written table locks owners c.self.invariant session key row new is_noted))
