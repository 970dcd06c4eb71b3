use Rattle.std.proofs.Common.{◌+◌, ◌-◌, ◌*◌, ◌^◌, ◌≤◌, length, sym, ap, subst, arith}
use Rattle.rg_index.proofs.Kept.{shown_is}
use Rattle.rg_btree.proofs.Trees.{tree_low, tree_full}
use Rattle.rg_btree.proofs.tree.Tree.levels.Goals as goal

pub overflow_add-result : goal.overflow_add-result
overflow_add-result c =
    let low = tree_low c.self.inside.root c.height.ensures.bounds c.self.invariant.several
    (omega (arith, c.self.invariant.count, c.self.invariant.bound)) in
    omega (arith, c.height.ensures.height)

pub returns-clause-one : goal.returns-clause-one
returns-clause-one c = λ one.
    let same = shown_is c.self.inside.root.entries c.args.self.now.entries c.self.invariant.rising
    (ap (λ v. v.entries) c.self.view_is) in
    let leaf = c.height.ensures.bounds.leaf (omega (arith, c.height.ensures.height)) in
    omega (arith, ap length same, leaf.1, leaf.2)

pub returns-clause-more : goal.returns-clause-more
returns-clause-more c = λ more.
    let same = shown_is c.self.inside.root.entries c.args.self.now.entries c.self.invariant.rising
    (ap (λ v. v.entries) c.self.view_is) in
    let height = sym c.height.ensures.height in
    let full =
    tree_full c.self.inside.root c.height.ensures.bounds c.self.invariant.several (omega arith) in
    subst (λ n. 256 * 112 ^ (c.height.result + 1 - 2) ≤ n) (sym (ap length same))
    (subst (λ h. 256 * 112 ^ (h + 1 - 2) ≤ length c.self.inside.root.entries) height full)
