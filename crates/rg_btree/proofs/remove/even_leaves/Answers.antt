use Rattle.std.proofs.Common.{◌≡◌, ◌+◌, ◌<◌, ◌++◌, length, sym, ◌∙◌, ap, vec_capacity, arith}
use Rattle.std.proofs.Common.{length-append}
use Rattle.std.proofs.lemmas.List.{length-take-le, length-drop}
use Rattle.rg_btree.specs.Moved.{moved}
use Rattle.rg_btree.proofs.Even.{height_of, leaf_of, of_leaf, leaf_is, leaf_kid, shares_of}
use Rattle.rg_btree.proofs.remove.even_leaves.Goals as goal

pub invariant_of-right : goal.invariant_of-right
invariant_of-right c =
    let low : c.left.inside.height ≡ 0 = height_of c.left.inside.height c.left.inside.keys.items
    c.left.inside.kids.items c.args.left.now c.left.view_is ∙ c.requires.left_leaf in
    let right_low : c.right.inside.height ≡ 0 =
    height_of c.right.inside.height c.right.inside.keys.items c.right.inside.kids.items c.args.right
    c.right.view_is ∙ c.requires.right_leaf in
    let leaf = leaf_of c.left.inside.height c.left.inside.keys.items c.left.inside.kids.items
    (vec_capacity c.left.inside.keys) (vec_capacity c.left.inside.kids) low c.left.invariant in
    let other = leaf_of c.right.inside.height c.right.inside.keys.items c.right.inside.kids.items
    (vec_capacity c.right.inside.keys) (vec_capacity c.right.inside.kids) right_low
    c.right.invariant in
    let most = leaf.most in
    let other_most = other.most in
    let fill = ap (λ b. b.fill)
    (sym (leaf_is c.left.inside.height c.left.inside.keys.items c.left.inside.kids.items low)
    ∙ c.left.view_is) in
    let other_fill = ap (λ b. b.fill)
    (sym
    (leaf_is c.right.inside.height c.right.inside.keys.items c.right.inside.kids.items right_low)
    ∙ c.right.view_is) in
    let long : 256 < length c.left.inside.keys.items + length c.right.inside.keys.items =
    omega (arith, c.left.inside.keys.ok.0, c.right.inside.keys.ok.0) in
    let parts = shares_of 128 256 (length c.left.inside.keys.items)
    (length c.right.inside.keys.items) (omega (arith, c.requires.left_fill)) most
    (omega (arith, c.requires.right_fill)) other_most long (omega arith) in
    let count = length-append c.left.inside.keys.items c.right.inside.keys.items in
    let cut = moved (length c.left.inside.keys.items) (length c.right.inside.keys.items) in
    let left_count = ap length c.share_out.ensures.left
    ∙ length-take-le cut (c.left.inside.keys.items ++ c.right.inside.keys.items)
    (omega (arith, parts.within)) in
    let right_count = ap length c.share_out.ensures.right
    ∙ length-drop cut (c.left.inside.keys.items ++ c.right.inside.keys.items) in
    of_leaf c.right.inside.height c.share_out.new.right.items c.right.inside.kids.items
    (vec_capacity c.share_out.new.right) (vec_capacity c.right.inside.kids) right_low (record {
      none = other.none;
      most = omega (arith, parts.right_most);
      room = omega (arith, other.room, c.share_out.ensures.kept_right);
    })

pub returns-clause-each : goal.returns-clause-each
returns-clause-each c =
    let low : c.left.inside.height ≡ 0 = height_of c.left.inside.height c.left.inside.keys.items
    c.left.inside.kids.items c.args.left.now c.left.view_is ∙ c.requires.left_leaf in
    let right_low : c.right.inside.height ≡ 0 =
    height_of c.right.inside.height c.right.inside.keys.items c.right.inside.kids.items c.args.right
    c.right.view_is ∙ c.requires.right_leaf in
    let leaf = leaf_of c.left.inside.height c.left.inside.keys.items c.left.inside.kids.items
    (vec_capacity c.left.inside.keys) (vec_capacity c.left.inside.kids) low c.left.invariant in
    let other = leaf_of c.right.inside.height c.right.inside.keys.items c.right.inside.kids.items
    (vec_capacity c.right.inside.keys) (vec_capacity c.right.inside.kids) right_low
    c.right.invariant in
    let most = leaf.most in
    let other_most = other.most in
    let fill = ap (λ b. b.fill)
    (sym (leaf_is c.left.inside.height c.left.inside.keys.items c.left.inside.kids.items low)
    ∙ c.left.view_is) in
    let other_fill = ap (λ b. b.fill)
    (sym
    (leaf_is c.right.inside.height c.right.inside.keys.items c.right.inside.kids.items right_low)
    ∙ c.right.view_is) in
    let long : 256 < length c.left.inside.keys.items + length c.right.inside.keys.items =
    omega (arith, c.left.inside.keys.ok.0, c.right.inside.keys.ok.0) in
    let parts = shares_of 128 256 (length c.left.inside.keys.items)
    (length c.right.inside.keys.items) (omega (arith, c.requires.left_fill)) most
    (omega (arith, c.requires.right_fill)) other_most long (omega arith) in
    let count = length-append c.left.inside.keys.items c.right.inside.keys.items in
    let cut = moved (length c.left.inside.keys.items) (length c.right.inside.keys.items) in
    let left_count = ap length c.share_out.ensures.left
    ∙ length-take-le cut (c.left.inside.keys.items ++ c.right.inside.keys.items)
    (omega (arith, parts.within)) in
    let right_count = ap length c.share_out.ensures.right
    ∙ length-drop cut (c.left.inside.keys.items ++ c.right.inside.keys.items) in (
      leaf_kid c.left.inside.height c.share_out.new.left.items c.left.inside.kids.items low
          (omega (arith, parts.left)),
      (
        leaf_kid c.right.inside.height c.share_out.new.right.items c.right.inside.kids.items
            right_low (omega (arith, parts.right)),
        tt,
      ),
    )
