use Rattle.std.proofs.Common.{sym, ◌∙◌, ap, not, find}
use Rattle.rg_index.proofs.Kept.{shown_is}
use Rattle.rg_model.specs.Layout.{is_entry_before}
use Rattle.rg_btree.proofs.tree.Tree.first_from.Goals as goal

pub returns : goal.returns
returns c =
    c.first_from.ensures
    ∙ ap (find (λ e. not (is_entry_before e (c.args.value, c.args.place))))
    (sym
    (shown_is c.self.inside.root.entries c.args.self.now.entries c.self.invariant.rising
    (ap (λ v. v.entries) c.self.view_is)))
