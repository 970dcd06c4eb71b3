use Rattle.std.proofs.Common.{sym, ◌∙◌, ap, length}
use Rattle.rg_index.proofs.Kept.{shown_is}
use Rattle.rg_btree.proofs.tree.Tree.len.Goals as goal

pub returns : goal.returns
returns c =
    c.self.invariant.count
    ∙ sym
    (ap length
    (shown_is c.self.inside.root.entries c.args.self.now.entries c.self.invariant.rising
    (ap (λ v. v.entries) c.self.view_is)))
