use Rattle.std.proofs.Common.{◌<◌, ◌-◌, length, take, drop, sym, ◌∙◌, ap, subst, vec_capacity}
use Rattle.std.proofs.Common.{arith}
use Rattle.std.proofs.lemmas.List.{length-take-le, length-drop}
use Rattle.rg_base.proofs.Each.{Each-drop}
use Rattle.rg_bulk.specs.Shape.{IsKid}
use Rattle.rg_btree.proofs.Kids.{node_of, firsts-take, firsts-drop}
use Rattle.rg_btree.proofs.add.split_inner.Goals as goal

pub invariant_of-result : goal.invariant_of-result
invariant_of-result c =
    let long : 225 < length c.args.kids.now.items = omega (arith, c.args.kids.now.ok.0) in
    let count =
    ap length c.move_behind-second_kids.ensures.moved ∙ length-drop 113 c.args.kids.now.items in
    node_of c.args.height c.move_behind-second_keys.result.items
    c.move_behind-second_kids.result.items (vec_capacity c.move_behind-second_keys.result)
    (vec_capacity c.move_behind-second_kids.result) (λ low. omega (arith, c.requires.inner))
    (record {
      keys_are = c.move_behind-second_keys.ensures.moved ∙ ap (drop 113) c.requires.keys_are
          ∙ firsts-drop 113 c.args.kids.now.items
          ∙ ap Rattle.rg_btree.specs.Child.firsts (sym c.move_behind-second_kids.ensures.moved);
      fewest = omega arith;
      most = omega (arith, c.requires.most);
      each = subst (Rattle.std.specs.List.AllByRecursion (IsKid (c.args.height - 1)))
          (sym c.move_behind-second_kids.ensures.moved)
          (Each-drop (IsKid (c.args.height - 1)) 113 c.args.kids.now.items c.requires.each);
      key_space =
          omega (arith, c.take_keys.ensures.room, c.move_behind-second_keys.ensures.result_room);
      kid_space =
          omega (arith, c.take_kids.ensures.room, c.move_behind-second_kids.ensures.result_room);
    })

pub returns-clause-keys_are : goal.returns-clause-keys_are
returns-clause-keys_are c = c.move_behind-second_keys.ensures.left
    ∙ ap (take 113) c.requires.keys_are ∙ firsts-take 113 c.args.kids.now.items
    ∙ ap Rattle.rg_btree.specs.Child.firsts (sym c.move_behind-second_kids.ensures.left)

pub returns-clause-most : goal.returns-clause-most
returns-clause-most c =
    let long : 225 < length c.args.kids.now.items = omega (arith, c.args.kids.now.ok.0) in
    let count = ap length c.move_behind-second_kids.ensures.left
    ∙ length-take-le 113 c.args.kids.now.items (omega arith) in
    omega arith
