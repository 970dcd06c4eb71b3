use Rattle.std.proofs.Common.{◌≡◌, ◌-◌, true, false, length, sym, ◌∙◌, ap, arith}
use Rattle.rg_index.specs.Entries.{has_entry}
use Rattle.rg_index.proofs.Kept.{shown_is}
use Rattle.rg_index.proofs.Lists.{without_absent}
use Rattle.rg_btree.proofs.Trees.{length_without, tree_removed}
use Rattle.rg_btree.proofs.tree.TreeIndex.remove.Goals as goal

pub invariant_of-self : goal.invariant_of-self
invariant_of-self c =
    let absent : has_entry c.self.inside.root.entries (c.args.value, c.args.place) ≡ false =
    sym c.if-not-remove_from_root.ensures.there in
    (tree_removed (c.args.value, c.args.place) c.self.inside.root c.remove_from_root.new.root
    c.self.inside.pool c.remove_from_root.new.pool c.self.inside.len c.self.inside.len
    c.self.inside.spare c.self.inside.nodes c.self.inside.inners c.args.self.now.entries
    c.self.invariant (ap (λ v. v.entries) c.self.view_is) c.remove_from_root.ensures.entries
    (c.self.invariant.count
    ∙ ap length
    (sym (without_absent (c.args.value, c.args.place) c.self.inside.root.entries absent)))
    (omega arith) c.remove_from_root.ensures.several c.remove_from_root.ensures.pool_keys
    c.remove_from_root.ensures.pool_kids c.remove_from_root.ensures.key_room
    c.remove_from_root.ensures.kid_room).0

pub returns-then-not-remove_from_root-clause-there :
    goal.returns-then-not-remove_from_root-clause-there
returns-then-not-remove_from_root-clause-there c =
    let absent : has_entry c.self.inside.root.entries (c.args.value, c.args.place) ≡ false =
    sym c.if-not-remove_from_root.ensures.there in
    sym
    (ap (λ es. has_entry es (c.args.value, c.args.place))
    (shown_is c.self.inside.root.entries c.args.self.now.entries c.self.invariant.rising
    (ap (λ v. v.entries) c.self.view_is)) ∙ absent)

pub returns-then-not-remove_from_root-clause-entries :
    goal.returns-then-not-remove_from_root-clause-entries
returns-then-not-remove_from_root-clause-entries c =
    let absent : has_entry c.self.inside.root.entries (c.args.value, c.args.place) ≡ false =
    sym c.if-not-remove_from_root.ensures.there in
    (tree_removed (c.args.value, c.args.place) c.self.inside.root c.remove_from_root.new.root
    c.self.inside.pool c.remove_from_root.new.pool c.self.inside.len c.self.inside.len
    c.self.inside.spare c.self.inside.nodes c.self.inside.inners c.args.self.now.entries
    c.self.invariant (ap (λ v. v.entries) c.self.view_is) c.remove_from_root.ensures.entries
    (c.self.invariant.count
    ∙ ap length
    (sym (without_absent (c.args.value, c.args.place) c.self.inside.root.entries absent)))
    (omega arith) c.remove_from_root.ensures.several c.remove_from_root.ensures.pool_keys
    c.remove_from_root.ensures.pool_kids c.remove_from_root.ensures.key_room
    c.remove_from_root.ensures.kid_room).1

pub invariant_of-self-2 : goal.invariant_of-self-2
invariant_of-self-2 c =
    let there : has_entry c.self.inside.root.entries (c.args.value, c.args.place) ≡ true =
    sym c.if-not-remove_from_root.ensures.there in
    (tree_removed (c.args.value, c.args.place) c.self.inside.root c.remove_from_root.new.root
    c.self.inside.pool c.remove_from_root.new.pool c.self.inside.len (c.self.inside.len - 1)
    c.self.inside.spare c.self.inside.nodes c.self.inside.inners c.args.self.now.entries
    c.self.invariant (ap (λ v. v.entries) c.self.view_is) c.remove_from_root.ensures.entries
    (omega (
      arith,
      c.self.invariant.count,
      length_without (c.args.value, c.args.place) c.self.inside.root.entries c.self.invariant.rising
          there,
    )) (omega arith) c.remove_from_root.ensures.several c.remove_from_root.ensures.pool_keys
    c.remove_from_root.ensures.pool_kids c.remove_from_root.ensures.key_room
    c.remove_from_root.ensures.kid_room).0

pub returns-clause-there : goal.returns-clause-there
returns-clause-there c =
    let there : has_entry c.self.inside.root.entries (c.args.value, c.args.place) ≡ true =
    sym c.if-not-remove_from_root.ensures.there in
    sym
    (ap (λ es. has_entry es (c.args.value, c.args.place))
    (shown_is c.self.inside.root.entries c.args.self.now.entries c.self.invariant.rising
    (ap (λ v. v.entries) c.self.view_is)) ∙ there)

pub returns-clause-entries : goal.returns-clause-entries
returns-clause-entries c =
    let there : has_entry c.self.inside.root.entries (c.args.value, c.args.place) ≡ true =
    sym c.if-not-remove_from_root.ensures.there in
    (tree_removed (c.args.value, c.args.place) c.self.inside.root c.remove_from_root.new.root
    c.self.inside.pool c.remove_from_root.new.pool c.self.inside.len (c.self.inside.len - 1)
    c.self.inside.spare c.self.inside.nodes c.self.inside.inners c.args.self.now.entries
    c.self.invariant (ap (λ v. v.entries) c.self.view_is) c.remove_from_root.ensures.entries
    (omega (
      arith,
      c.self.invariant.count,
      length_without (c.args.value, c.args.place) c.self.inside.root.entries c.self.invariant.rising
          there,
    )) (omega arith) c.remove_from_root.ensures.several c.remove_from_root.ensures.pool_keys
    c.remove_from_root.ensures.pool_kids c.remove_from_root.ensures.key_room
    c.remove_from_root.ensures.kid_room).1
