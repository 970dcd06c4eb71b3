use Rattle.std.proofs.Common.{sym, ◌∙◌, ap, ◌++◌}
use Rattle.rg_index.specs.Entries.{entries_within}
use Rattle.rg_index.proofs.Kept.{shown_is}
use Rattle.rg_btree.proofs.tree.TreeIndex.range.Goals as goal

pub returns : goal.returns
returns c =
    c.new.ensures
    ∙ c.in_ok-collect.ensures
    ∙ ap (λ es. es ++ entries_within c.args.lo c.args.hi c.self.inside.root.entries)
    c.new-found.ensures.items
    ∙ ap (entries_within c.args.lo c.args.hi)
    (sym
    (shown_is c.self.inside.root.entries c.args.self.now.entries c.self.invariant.rising
    (ap (λ v. v.entries) c.self.view_is)))
