use Rattle.std.proofs.Common.{◌∙◌, ap, subst}
use Rattle.std.specs.FinMap as map
use Rattle.rg_model.specs.Held.{owner_of}
use Rattle.rg_judge.specs.Table.Locked.{Locked}
use Rattle.rg_judge.specs.Table.Owners.{AreHeld}
use Rattle.rg_judge.proofs.TableLemmas.LeastHeld.{find-held, find-none}
use Rattle.rg_judge.proofs.table.locked_rows.LockedRows.find_holder.Goals as goal

pub returns-in-Some : goal.returns-in-Some
returns-in-Some c =
    let rows = c.args.self.now in
    let owners = c.self.inside.held.owners in
    let are =
    subst (λ (r : Locked). AreHeld r.table r.locks owners) c.self.view_is c.self.invariant in
    c.owner.ensures
    ∙ ap (λ (r : Locked). owner_of (map.get r.locks c.in-Some.key)) c.self.view_is
    ∙ find-held rows.table rows.locks owners are c.args.session c.args.cat c.in-Some.key
    c.in-Some.ensures

pub returns-in-None : goal.returns-in-None
returns-in-None c =
    let rows = c.args.self.now in
    let owners = c.self.inside.held.owners in
    let are =
    subst (λ (r : Locked). AreHeld r.table r.locks owners) c.self.view_is c.self.invariant in
    find-none rows.table rows.locks owners are c.args.session c.args.cat c.in-None.ensures
