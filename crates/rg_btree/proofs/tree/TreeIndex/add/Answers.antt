use Rattle.std.proofs.Common.{◌<◌, sym, ◌∙◌, ap, arith}
use Rattle.rg_index.specs.Entries.{has_entry}
use Rattle.rg_index.proofs.Kept.{shown_is}
use Rattle.rg_btree.proofs.Trees.{tree_low, tree_added}
use Rattle.rg_btree.proofs.tree.TreeIndex.add.Goals as goal

pub prove-unreachable-requires : goal.prove-unreachable-requires
prove-unreachable-requires c =
    let low = tree_low c.self.inside.root c.height.ensures.bounds c.self.invariant.several
    (omega (arith, c.self.invariant.count, c.self.invariant.bound)) in
    omega (arith, c.height.ensures.height)

pub add_to_root-requires-clause-low : goal.add_to_root-requires-clause-low
add_to_root-requires-clause-low c =
    let low = tree_low c.self.inside.root c.height.ensures.bounds c.self.invariant.several
    (omega (arith, c.self.invariant.count, c.self.invariant.bound)) in
    omega arith

pub add_to_root-requires-clause-absent : goal.add_to_root-requires-clause-absent
add_to_root-requires-clause-absent c = ap (λ es. has_entry es (c.args.value, c.args.place))
    (sym
    (shown_is c.self.inside.root.entries c.args.self.now.entries c.self.invariant.rising
    (ap (λ v. v.entries) c.self.view_is))) ∙ c.requires.absent

pub add_to_root-requires-clause-spare_keys : goal.add_to_root-requires-clause-spare_keys
add_to_root-requires-clause-spare_keys c =
    let low = tree_low c.self.inside.root c.height.ensures.bounds c.self.invariant.several
    (omega (arith, c.self.invariant.count, c.self.invariant.bound)) in
    let some : 0 < c.self.inside.spare =
    omega (arith, c.requires.room, ap (λ v. v.spare) c.self.view_is) in
    omega (
      arith,
      c.height.ensures.bounds.nodes,
      c.self.invariant.enough_nodes some,
      c.self.invariant.all_nodes,
      c.self.invariant.count,
    )

pub add_to_root-requires-clause-spare_kids : goal.add_to_root-requires-clause-spare_kids
add_to_root-requires-clause-spare_kids c =
    let low = tree_low c.self.inside.root c.height.ensures.bounds c.self.invariant.several
    (omega (arith, c.self.invariant.count, c.self.invariant.bound)) in
    let some : 0 < c.self.inside.spare =
    omega (arith, c.requires.room, ap (λ v. v.spare) c.self.view_is) in
    omega (
      arith,
      c.height.ensures.bounds.inners,
      c.self.invariant.enough_inners some,
      c.self.invariant.all_inners,
      c.self.invariant.count,
    )

pub invariant_of-self : goal.invariant_of-self
invariant_of-self c =
    (tree_added (c.args.value, c.args.place) c.self.inside.root c.add_to_root.new.root
    c.self.inside.pool c.add_to_root.new.pool c.self.inside.len c.self.inside.spare
    c.self.inside.nodes c.self.inside.inners c.args.self.now.entries c.self.invariant
    (ap (λ v. v.entries) c.self.view_is) c.requires.absent
    (omega (arith, c.requires.room, ap (λ v. v.spare) c.self.view_is)) c.add_to_root.ensures.entries
    c.add_to_root.ensures.several c.add_to_root.ensures.pool_keys c.add_to_root.ensures.pool_kids
    c.add_to_root.ensures.key_room c.add_to_root.ensures.kid_room).0

pub returns-clause-entries : goal.returns-clause-entries
returns-clause-entries c =
    (tree_added (c.args.value, c.args.place) c.self.inside.root c.add_to_root.new.root
    c.self.inside.pool c.add_to_root.new.pool c.self.inside.len c.self.inside.spare
    c.self.inside.nodes c.self.inside.inners c.args.self.now.entries c.self.invariant
    (ap (λ v. v.entries) c.self.view_is) c.requires.absent
    (omega (arith, c.requires.room, ap (λ v. v.spare) c.self.view_is)) c.add_to_root.ensures.entries
    c.add_to_root.ensures.several c.add_to_root.ensures.pool_keys c.add_to_root.ensures.pool_kids
    c.add_to_root.ensures.key_room c.add_to_root.ensures.kid_room).1
