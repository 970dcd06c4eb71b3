use Rattle.std.proofs.Common.{ℕ, Option, sym, ◌∙◌, ap, subst}
use Rattle.rg_base.specs.declared.session.Session.{Session}
use Rattle.rg_lock.specs.First.{IsFirstHeld}
use Rattle.rg_model.specs.Held.{scan_holder}
use Rattle.rg_judge.specs.Table.Locked.{Locked}
use Rattle.rg_lock.proofs.ScanHeld.{scan_free, scan_held}
use Rattle.rg_judge.proofs.table.locked_rows.LockedRows.scan_holder.Goals as goal

pub returns-in-Some : goal.returns-in-Some
returns-in-Some c =
    let locks = c.self.inside.locks in
    let held : ℕ × Session = (c.in-Some.field-0-0, c.in-Some.owner) in
    sym (scan_held locks c.args.session c.args.lo c.args.hi held
    (subst
    (λ (found : Option (ℕ × Session)). IsFirstHeld locks c.args.session c.args.lo c.args.hi found)
    c.in-Some.is c.first_held.ensures))
    ∙ ap (λ (r : Locked). scan_holder r.locks c.args.session c.args.lo c.args.hi) c.self.view_is

pub returns-in-None : goal.returns-in-None
returns-in-None c =
    sym (scan_free c.self.inside.locks c.args.session c.args.lo c.args.hi c.in-None.ensures)
    ∙ ap (λ (r : Locked). scan_holder r.locks c.args.session c.args.lo c.args.hi) c.self.view_is
