use Rattle.std.proofs.Common.{sym, ◌∙◌, ap, ◌++◌}
use Rattle.rg_index.proofs.Kept.{shown_is}
use Rattle.rg_btree.proofs.tree.Tree.listing.Goals as goal

pub returns : goal.returns
returns c =
    c.new.ensures
    ∙ c.in_ok-collect_all.ensures
    ∙ ap (λ es. es ++ c.self.inside.root.entries) c.in_ok-found.ensures.items
    ∙ sym
    (shown_is c.self.inside.root.entries c.args.self.now.entries c.self.invariant.rising
    (ap (λ v. v.entries) c.self.view_is))
