use Rattle.std.proofs.Common.{◌≡◌, ◌+◌, ◌-◌, ◌<◌, [], ◌∷◌, ◌++◌, suc, length, take, drop, sym, ◌∙◌}
use Rattle.std.proofs.Common.{ap, subst, vec_capacity, arith, length-append}
use Rattle.std.proofs.lemmas.List.{length-take-le, length-drop}
use Rattle.rg_bulk.specs.Branch.{branch_of}
use Rattle.std.specs.List.{AllByRecursion}
use Rattle.rg_base.proofs.Each.{Each-take, Each-drop}
use Rattle.rg_bulk.specs.Shape.{IsKid, IsNode}
use Rattle.rg_btree.specs.Child.{firsts}
use Rattle.rg_btree.specs.Moved.{moved}
use Rattle.rg_btree.proofs.Kids.{inner_of, node_of, branch_is}
use Rattle.rg_btree.proofs.Kids.{firsts-take, firsts-drop}
use Rattle.rg_btree.proofs.Even.{height_of, pair_of, shares_of, evened, merged}
use Rattle.rg_btree.proofs.remove.even_inners.Goals as goal

pub returns-then-len-le-KIDS_MOST-clause-each : goal.returns-then-len-le-KIDS_MOST-clause-each
returns-then-len-le-KIDS_MOST-clause-each c =
    let level : c.left.inside.height ≡ c.args.left.now.height = height_of c.left.inside.height
    c.left.inside.keys.items c.left.inside.kids.items c.args.left.now c.left.view_is in
    let right_level : c.right.inside.height ≡ c.left.inside.height =
    height_of c.right.inside.height c.right.inside.keys.items c.right.inside.kids.items c.args.right
    c.right.view_is ∙ c.requires.right_inner ∙ sym level in
    let pair = pair_of c.left.inside.height c.left.inside.keys.items c.left.inside.kids.items
    (vec_capacity c.left.inside.keys) (vec_capacity c.left.inside.kids) c.args.left.now
    c.right.inside.height c.right.inside.keys.items c.right.inside.kids.items
    (vec_capacity c.right.inside.keys) (vec_capacity c.right.inside.kids) c.args.right
    c.left.invariant c.left.view_is c.right.invariant c.right.view_is
    (λ low. omega (arith, c.requires.left_inner)) right_level in
    let count = length-append c.left.inside.kids.items c.right.inside.kids.items in
    let left_fill = pair.left_fill in
    let right_fill = pair.right_fill in
    let node : branch_of c.left.inside.height c.append_within.new.to.items
    c.append_within-then-len-le-KIDS_MOST.new.to.items
    ≡ branch_of (suc (c.left.inside.height - 1)) []
    (c.left.inside.kids.items ++ c.right.inside.kids.items) =
    branch_is c.left.inside.height c.append_within.new.to.items
    c.append_within-then-len-le-KIDS_MOST.new.to.items (λ low. omega (arith, c.requires.left_inner))
    ∙ ap (branch_of (suc (c.left.inside.height - 1)) [])
    c.append_within-then-len-le-KIDS_MOST.ensures.items in
    let after = merged c.left.inside.height (c.left.inside.kids.items ++ c.right.inside.kids.items)
    (branch_of c.left.inside.height c.append_within.new.to.items
    c.append_within-then-len-le-KIDS_MOST.new.to.items)
    (λ low. omega (arith, c.requires.left_inner)) pair.each (omega (arith, c.requires.both)) node in
    subst
    (λ k. AllByRecursion (IsKid k)
    (branch_of c.left.inside.height c.append_within.new.to.items
    c.append_within-then-len-le-KIDS_MOST.new.to.items ∷ [])) level after.each

pub returns-then-len-le-KIDS_MOST-clause-pool_keys :
    goal.returns-then-len-le-KIDS_MOST-clause-pool_keys
returns-then-len-le-KIDS_MOST-clause-pool_keys c =
    let level : c.left.inside.height ≡ c.args.left.now.height = height_of c.left.inside.height
    c.left.inside.keys.items c.left.inside.kids.items c.args.left.now c.left.view_is in
    let right_level : c.right.inside.height ≡ c.left.inside.height =
    height_of c.right.inside.height c.right.inside.keys.items c.right.inside.kids.items c.args.right
    c.right.view_is ∙ c.requires.right_inner ∙ sym level in
    let pair = pair_of c.left.inside.height c.left.inside.keys.items c.left.inside.kids.items
    (vec_capacity c.left.inside.keys) (vec_capacity c.left.inside.kids) c.args.left.now
    c.right.inside.height c.right.inside.keys.items c.right.inside.kids.items
    (vec_capacity c.right.inside.keys) (vec_capacity c.right.inside.kids) c.args.right
    c.left.invariant c.left.view_is c.right.invariant c.right.view_is
    (λ low. omega (arith, c.requires.left_inner)) right_level in
    let count = length-append c.left.inside.kids.items c.right.inside.kids.items in
    let left_fill = pair.left_fill in
    let right_fill = pair.right_fill in
    let node : branch_of c.left.inside.height c.append_within.new.to.items
    c.append_within-then-len-le-KIDS_MOST.new.to.items
    ≡ branch_of (suc (c.left.inside.height - 1)) []
    (c.left.inside.kids.items ++ c.right.inside.kids.items) =
    branch_is c.left.inside.height c.append_within.new.to.items
    c.append_within-then-len-le-KIDS_MOST.new.to.items (λ low. omega (arith, c.requires.left_inner))
    ∙ ap (branch_of (suc (c.left.inside.height - 1)) [])
    c.append_within-then-len-le-KIDS_MOST.ensures.items in
    let after = merged c.left.inside.height (c.left.inside.kids.items ++ c.right.inside.kids.items)
    (branch_of c.left.inside.height c.append_within.new.to.items
    c.append_within-then-len-le-KIDS_MOST.new.to.items)
    (λ low. omega (arith, c.requires.left_inner)) pair.each (omega (arith, c.requires.both)) node in
    omega (arith, after.node_count, pair.nodes, c.give_keys.ensures.more, c.give_kids.ensures.keys)

pub returns-then-len-le-KIDS_MOST-clause-pool_kids :
    goal.returns-then-len-le-KIDS_MOST-clause-pool_kids
returns-then-len-le-KIDS_MOST-clause-pool_kids c =
    let level : c.left.inside.height ≡ c.args.left.now.height = height_of c.left.inside.height
    c.left.inside.keys.items c.left.inside.kids.items c.args.left.now c.left.view_is in
    let right_level : c.right.inside.height ≡ c.left.inside.height =
    height_of c.right.inside.height c.right.inside.keys.items c.right.inside.kids.items c.args.right
    c.right.view_is ∙ c.requires.right_inner ∙ sym level in
    let pair = pair_of c.left.inside.height c.left.inside.keys.items c.left.inside.kids.items
    (vec_capacity c.left.inside.keys) (vec_capacity c.left.inside.kids) c.args.left.now
    c.right.inside.height c.right.inside.keys.items c.right.inside.kids.items
    (vec_capacity c.right.inside.keys) (vec_capacity c.right.inside.kids) c.args.right
    c.left.invariant c.left.view_is c.right.invariant c.right.view_is
    (λ low. omega (arith, c.requires.left_inner)) right_level in
    let count = length-append c.left.inside.kids.items c.right.inside.kids.items in
    let left_fill = pair.left_fill in
    let right_fill = pair.right_fill in
    let node : branch_of c.left.inside.height c.append_within.new.to.items
    c.append_within-then-len-le-KIDS_MOST.new.to.items
    ≡ branch_of (suc (c.left.inside.height - 1)) []
    (c.left.inside.kids.items ++ c.right.inside.kids.items) =
    branch_is c.left.inside.height c.append_within.new.to.items
    c.append_within-then-len-le-KIDS_MOST.new.to.items (λ low. omega (arith, c.requires.left_inner))
    ∙ ap (branch_of (suc (c.left.inside.height - 1)) [])
    c.append_within-then-len-le-KIDS_MOST.ensures.items in
    let after = merged c.left.inside.height (c.left.inside.kids.items ++ c.right.inside.kids.items)
    (branch_of c.left.inside.height c.append_within.new.to.items
    c.append_within-then-len-le-KIDS_MOST.new.to.items)
    (λ low. omega (arith, c.requires.left_inner)) pair.each (omega (arith, c.requires.both)) node in
    omega
    (arith, after.inner_count, pair.inners, c.give_keys.ensures.kids, c.give_kids.ensures.more)

pub invariant_of-right : goal.invariant_of-right
invariant_of-right c =
    let level : c.left.inside.height ≡ c.args.left.now.height = height_of c.left.inside.height
    c.left.inside.keys.items c.left.inside.kids.items c.args.left.now c.left.view_is in
    let right_level : c.right.inside.height ≡ c.left.inside.height =
    height_of c.right.inside.height c.right.inside.keys.items c.right.inside.kids.items c.args.right
    c.right.view_is ∙ c.requires.right_inner ∙ sym level in
    let pair = pair_of c.left.inside.height c.left.inside.keys.items c.left.inside.kids.items
    (vec_capacity c.left.inside.keys) (vec_capacity c.left.inside.kids) c.args.left.now
    c.right.inside.height c.right.inside.keys.items c.right.inside.kids.items
    (vec_capacity c.right.inside.keys) (vec_capacity c.right.inside.kids) c.args.right
    c.left.invariant c.left.view_is c.right.invariant c.right.view_is
    (λ low. omega (arith, c.requires.left_inner)) right_level in
    let count = length-append c.left.inside.kids.items c.right.inside.kids.items in
    let left_fill = pair.left_fill in
    let right_fill = pair.right_fill in
    let long : 225 < length c.left.inside.kids.items + length c.right.inside.kids.items =
    omega (arith, c.left.inside.kids.ok.0, c.right.inside.kids.ok.0) in
    let parts = shares_of 112 225 (length c.left.inside.kids.items)
    (length c.right.inside.kids.items) (omega (arith, c.requires.left_fill)) pair.left_most
    (omega (arith, c.requires.right_fill)) pair.right_most long (omega arith) in
    let cut = moved (length c.left.inside.kids.items) (length c.right.inside.kids.items) in
    let same_cut : moved (length c.left.inside.keys.items) (length c.right.inside.keys.items)
    ≡ cut = λ i. moved (pair.left_same i) (pair.right_same i) in
    let left_count = ap length c.share_out-2.ensures.left
    ∙ length-take-le cut (c.left.inside.kids.items ++ c.right.inside.kids.items)
    (omega (arith, parts.within)) in
    let right_count = ap length c.share_out-2.ensures.right
    ∙ length-drop cut (c.left.inside.kids.items ++ c.right.inside.kids.items) in
    let space = inner_of c.left.inside.height c.right.inside.keys.items c.right.inside.kids.items
    (vec_capacity c.right.inside.keys) (vec_capacity c.right.inside.kids)
    (λ low. omega (arith, c.requires.left_inner))
    (subst
    (λ k. IsNode k c.right.inside.keys.items c.right.inside.kids.items
    (vec_capacity c.right.inside.keys) (vec_capacity c.right.inside.kids)) right_level
    c.right.invariant) in
    subst
    (λ k. IsNode k c.share_out.new.right.items c.share_out-2.new.right.items
    (vec_capacity c.share_out.new.right) (vec_capacity c.share_out-2.new.right)) (sym right_level)
    (node_of c.left.inside.height c.share_out.new.right.items c.share_out-2.new.right.items
    (vec_capacity c.share_out.new.right) (vec_capacity c.share_out-2.new.right)
    (λ low. omega (arith, c.requires.left_inner)) (record {
      keys_are = c.share_out.ensures.right ∙ (λ i. drop (same_cut i) (pair.keys_are i))
          ∙ firsts-drop cut (c.left.inside.kids.items ++ c.right.inside.kids.items)
          ∙ ap firsts (sym c.share_out-2.ensures.right);
      fewest = omega (arith, parts.right);
      most = omega (arith, parts.right_most);
      each = subst (AllByRecursion (IsKid (c.left.inside.height - 1)))
          (sym c.share_out-2.ensures.right)
          (Each-drop (IsKid (c.left.inside.height - 1)) cut
          (c.left.inside.kids.items ++ c.right.inside.kids.items) pair.each);
      key_space = omega (arith, c.share_out.ensures.kept_right, space.key_space);
      kid_space = omega (arith, c.share_out-2.ensures.kept_right, space.kid_space);
    }))

pub invariant_of-left-2 : goal.invariant_of-left-2
invariant_of-left-2 c =
    let level : c.left.inside.height ≡ c.args.left.now.height = height_of c.left.inside.height
    c.left.inside.keys.items c.left.inside.kids.items c.args.left.now c.left.view_is in
    let right_level : c.right.inside.height ≡ c.left.inside.height =
    height_of c.right.inside.height c.right.inside.keys.items c.right.inside.kids.items c.args.right
    c.right.view_is ∙ c.requires.right_inner ∙ sym level in
    let pair = pair_of c.left.inside.height c.left.inside.keys.items c.left.inside.kids.items
    (vec_capacity c.left.inside.keys) (vec_capacity c.left.inside.kids) c.args.left.now
    c.right.inside.height c.right.inside.keys.items c.right.inside.kids.items
    (vec_capacity c.right.inside.keys) (vec_capacity c.right.inside.kids) c.args.right
    c.left.invariant c.left.view_is c.right.invariant c.right.view_is
    (λ low. omega (arith, c.requires.left_inner)) right_level in
    let count = length-append c.left.inside.kids.items c.right.inside.kids.items in
    let left_fill = pair.left_fill in
    let right_fill = pair.right_fill in
    let long : 225 < length c.left.inside.kids.items + length c.right.inside.kids.items =
    omega (arith, c.left.inside.kids.ok.0, c.right.inside.kids.ok.0) in
    let parts = shares_of 112 225 (length c.left.inside.kids.items)
    (length c.right.inside.kids.items) (omega (arith, c.requires.left_fill)) pair.left_most
    (omega (arith, c.requires.right_fill)) pair.right_most long (omega arith) in
    let cut = moved (length c.left.inside.kids.items) (length c.right.inside.kids.items) in
    let same_cut : moved (length c.left.inside.keys.items) (length c.right.inside.keys.items)
    ≡ cut = λ i. moved (pair.left_same i) (pair.right_same i) in
    let left_count = ap length c.share_out-2.ensures.left
    ∙ length-take-le cut (c.left.inside.kids.items ++ c.right.inside.kids.items)
    (omega (arith, parts.within)) in
    let right_count = ap length c.share_out-2.ensures.right
    ∙ length-drop cut (c.left.inside.kids.items ++ c.right.inside.kids.items) in
    let space = inner_of c.left.inside.height c.left.inside.keys.items c.left.inside.kids.items
    (vec_capacity c.left.inside.keys) (vec_capacity c.left.inside.kids)
    (λ low. omega (arith, c.requires.left_inner)) c.left.invariant in
    node_of c.left.inside.height c.share_out.new.left.items c.share_out-2.new.left.items
    (vec_capacity c.share_out.new.left) (vec_capacity c.share_out-2.new.left)
    (λ low. omega (arith, c.requires.left_inner)) (record {
      keys_are = c.share_out.ensures.left ∙ (λ i. take (same_cut i) (pair.keys_are i))
          ∙ firsts-take cut (c.left.inside.kids.items ++ c.right.inside.kids.items)
          ∙ ap firsts (sym c.share_out-2.ensures.left);
      fewest = omega (arith, parts.left);
      most = omega (arith, parts.left_most);
      each =
          subst (AllByRecursion (IsKid (c.left.inside.height - 1))) (sym c.share_out-2.ensures.left)
          (Each-take (IsKid (c.left.inside.height - 1)) cut
          (c.left.inside.kids.items ++ c.right.inside.kids.items) pair.each);
      key_space = omega (arith, c.share_out.ensures.kept_left, space.key_space);
      kid_space = omega (arith, c.share_out-2.ensures.kept_left, space.kid_space);
    })

pub returns-clause-each : goal.returns-clause-each
returns-clause-each c =
    let level : c.left.inside.height ≡ c.args.left.now.height = height_of c.left.inside.height
    c.left.inside.keys.items c.left.inside.kids.items c.args.left.now c.left.view_is in
    let right_level : c.right.inside.height ≡ c.left.inside.height =
    height_of c.right.inside.height c.right.inside.keys.items c.right.inside.kids.items c.args.right
    c.right.view_is ∙ c.requires.right_inner ∙ sym level in
    let pair = pair_of c.left.inside.height c.left.inside.keys.items c.left.inside.kids.items
    (vec_capacity c.left.inside.keys) (vec_capacity c.left.inside.kids) c.args.left.now
    c.right.inside.height c.right.inside.keys.items c.right.inside.kids.items
    (vec_capacity c.right.inside.keys) (vec_capacity c.right.inside.kids) c.args.right
    c.left.invariant c.left.view_is c.right.invariant c.right.view_is
    (λ low. omega (arith, c.requires.left_inner)) right_level in
    let count = length-append c.left.inside.kids.items c.right.inside.kids.items in
    let left_fill = pair.left_fill in
    let right_fill = pair.right_fill in
    let long : 225 < length c.left.inside.kids.items + length c.right.inside.kids.items =
    omega (arith, c.left.inside.kids.ok.0, c.right.inside.kids.ok.0) in
    let parts = shares_of 112 225 (length c.left.inside.kids.items)
    (length c.right.inside.kids.items) (omega (arith, c.requires.left_fill)) pair.left_most
    (omega (arith, c.requires.right_fill)) pair.right_most long (omega arith) in
    let cut = moved (length c.left.inside.kids.items) (length c.right.inside.kids.items) in
    let same_cut : moved (length c.left.inside.keys.items) (length c.right.inside.keys.items)
    ≡ cut = λ i. moved (pair.left_same i) (pair.right_same i) in
    let left_count = ap length c.share_out-2.ensures.left
    ∙ length-take-le cut (c.left.inside.kids.items ++ c.right.inside.kids.items)
    (omega (arith, parts.within)) in
    let right_count = ap length c.share_out-2.ensures.right
    ∙ length-drop cut (c.left.inside.kids.items ++ c.right.inside.kids.items) in
    let left_node : branch_of c.left.inside.height c.share_out.new.left.items
    c.share_out-2.new.left.items
    ≡ branch_of (suc (c.left.inside.height - 1)) []
    (take cut (c.left.inside.kids.items ++ c.right.inside.kids.items)) =
    branch_is c.left.inside.height c.share_out.new.left.items c.share_out-2.new.left.items
    (λ low. omega (arith, c.requires.left_inner))
    ∙ ap (branch_of (suc (c.left.inside.height - 1)) []) c.share_out-2.ensures.left in
    let right_node : branch_of c.right.inside.height c.share_out.new.right.items
    c.share_out-2.new.right.items
    ≡ branch_of (suc (c.left.inside.height - 1)) []
    (drop cut (c.left.inside.kids.items ++ c.right.inside.kids.items)) =
    ap (λ k. branch_of k c.share_out.new.right.items c.share_out-2.new.right.items) right_level
    ∙ branch_is c.left.inside.height c.share_out.new.right.items c.share_out-2.new.right.items
    (λ low. omega (arith, c.requires.left_inner))
    ∙ ap (branch_of (suc (c.left.inside.height - 1)) []) c.share_out-2.ensures.right in
    let after = evened c.left.inside.height (c.left.inside.kids.items ++ c.right.inside.kids.items)
    cut (branch_of c.left.inside.height c.share_out.new.left.items c.share_out-2.new.left.items)
    (branch_of c.right.inside.height c.share_out.new.right.items c.share_out-2.new.right.items)
    (λ low. omega (arith, c.requires.left_inner)) pair.each parts.left (omega (arith, parts.within))
    (omega (arith, parts.right)) left_node right_node in
    subst
    (λ k. AllByRecursion (IsKid k)
    (branch_of c.left.inside.height c.share_out.new.left.items c.share_out-2.new.left.items
    ∷ branch_of c.right.inside.height c.share_out.new.right.items c.share_out-2.new.right.items
    ∷ [])) level after.each

pub returns-clause-entries : goal.returns-clause-entries
returns-clause-entries c =
    let level : c.left.inside.height ≡ c.args.left.now.height = height_of c.left.inside.height
    c.left.inside.keys.items c.left.inside.kids.items c.args.left.now c.left.view_is in
    let right_level : c.right.inside.height ≡ c.left.inside.height =
    height_of c.right.inside.height c.right.inside.keys.items c.right.inside.kids.items c.args.right
    c.right.view_is ∙ c.requires.right_inner ∙ sym level in
    let pair = pair_of c.left.inside.height c.left.inside.keys.items c.left.inside.kids.items
    (vec_capacity c.left.inside.keys) (vec_capacity c.left.inside.kids) c.args.left.now
    c.right.inside.height c.right.inside.keys.items c.right.inside.kids.items
    (vec_capacity c.right.inside.keys) (vec_capacity c.right.inside.kids) c.args.right
    c.left.invariant c.left.view_is c.right.invariant c.right.view_is
    (λ low. omega (arith, c.requires.left_inner)) right_level in
    let count = length-append c.left.inside.kids.items c.right.inside.kids.items in
    let left_fill = pair.left_fill in
    let right_fill = pair.right_fill in
    let long : 225 < length c.left.inside.kids.items + length c.right.inside.kids.items =
    omega (arith, c.left.inside.kids.ok.0, c.right.inside.kids.ok.0) in
    let parts = shares_of 112 225 (length c.left.inside.kids.items)
    (length c.right.inside.kids.items) (omega (arith, c.requires.left_fill)) pair.left_most
    (omega (arith, c.requires.right_fill)) pair.right_most long (omega arith) in
    let cut = moved (length c.left.inside.kids.items) (length c.right.inside.kids.items) in
    let same_cut : moved (length c.left.inside.keys.items) (length c.right.inside.keys.items)
    ≡ cut = λ i. moved (pair.left_same i) (pair.right_same i) in
    let left_count = ap length c.share_out-2.ensures.left
    ∙ length-take-le cut (c.left.inside.kids.items ++ c.right.inside.kids.items)
    (omega (arith, parts.within)) in
    let right_count = ap length c.share_out-2.ensures.right
    ∙ length-drop cut (c.left.inside.kids.items ++ c.right.inside.kids.items) in
    let left_node : branch_of c.left.inside.height c.share_out.new.left.items
    c.share_out-2.new.left.items
    ≡ branch_of (suc (c.left.inside.height - 1)) []
    (take cut (c.left.inside.kids.items ++ c.right.inside.kids.items)) =
    branch_is c.left.inside.height c.share_out.new.left.items c.share_out-2.new.left.items
    (λ low. omega (arith, c.requires.left_inner))
    ∙ ap (branch_of (suc (c.left.inside.height - 1)) []) c.share_out-2.ensures.left in
    let right_node : branch_of c.right.inside.height c.share_out.new.right.items
    c.share_out-2.new.right.items
    ≡ branch_of (suc (c.left.inside.height - 1)) []
    (drop cut (c.left.inside.kids.items ++ c.right.inside.kids.items)) =
    ap (λ k. branch_of k c.share_out.new.right.items c.share_out-2.new.right.items) right_level
    ∙ branch_is c.left.inside.height c.share_out.new.right.items c.share_out-2.new.right.items
    (λ low. omega (arith, c.requires.left_inner))
    ∙ ap (branch_of (suc (c.left.inside.height - 1)) []) c.share_out-2.ensures.right in
    let after = evened c.left.inside.height (c.left.inside.kids.items ++ c.right.inside.kids.items)
    cut (branch_of c.left.inside.height c.share_out.new.left.items c.share_out-2.new.left.items)
    (branch_of c.right.inside.height c.share_out.new.right.items c.share_out-2.new.right.items)
    (λ low. omega (arith, c.requires.left_inner)) pair.each parts.left (omega (arith, parts.within))
    (omega (arith, parts.right)) left_node right_node in
    after.entries ∙ sym pair.entries

pub returns-clause-pool_keys : goal.returns-clause-pool_keys
returns-clause-pool_keys c =
    let level : c.left.inside.height ≡ c.args.left.now.height = height_of c.left.inside.height
    c.left.inside.keys.items c.left.inside.kids.items c.args.left.now c.left.view_is in
    let right_level : c.right.inside.height ≡ c.left.inside.height =
    height_of c.right.inside.height c.right.inside.keys.items c.right.inside.kids.items c.args.right
    c.right.view_is ∙ c.requires.right_inner ∙ sym level in
    let pair = pair_of c.left.inside.height c.left.inside.keys.items c.left.inside.kids.items
    (vec_capacity c.left.inside.keys) (vec_capacity c.left.inside.kids) c.args.left.now
    c.right.inside.height c.right.inside.keys.items c.right.inside.kids.items
    (vec_capacity c.right.inside.keys) (vec_capacity c.right.inside.kids) c.args.right
    c.left.invariant c.left.view_is c.right.invariant c.right.view_is
    (λ low. omega (arith, c.requires.left_inner)) right_level in
    let count = length-append c.left.inside.kids.items c.right.inside.kids.items in
    let left_fill = pair.left_fill in
    let right_fill = pair.right_fill in
    let long : 225 < length c.left.inside.kids.items + length c.right.inside.kids.items =
    omega (arith, c.left.inside.kids.ok.0, c.right.inside.kids.ok.0) in
    let parts = shares_of 112 225 (length c.left.inside.kids.items)
    (length c.right.inside.kids.items) (omega (arith, c.requires.left_fill)) pair.left_most
    (omega (arith, c.requires.right_fill)) pair.right_most long (omega arith) in
    let cut = moved (length c.left.inside.kids.items) (length c.right.inside.kids.items) in
    let same_cut : moved (length c.left.inside.keys.items) (length c.right.inside.keys.items)
    ≡ cut = λ i. moved (pair.left_same i) (pair.right_same i) in
    let left_count = ap length c.share_out-2.ensures.left
    ∙ length-take-le cut (c.left.inside.kids.items ++ c.right.inside.kids.items)
    (omega (arith, parts.within)) in
    let right_count = ap length c.share_out-2.ensures.right
    ∙ length-drop cut (c.left.inside.kids.items ++ c.right.inside.kids.items) in
    let left_node : branch_of c.left.inside.height c.share_out.new.left.items
    c.share_out-2.new.left.items
    ≡ branch_of (suc (c.left.inside.height - 1)) []
    (take cut (c.left.inside.kids.items ++ c.right.inside.kids.items)) =
    branch_is c.left.inside.height c.share_out.new.left.items c.share_out-2.new.left.items
    (λ low. omega (arith, c.requires.left_inner))
    ∙ ap (branch_of (suc (c.left.inside.height - 1)) []) c.share_out-2.ensures.left in
    let right_node : branch_of c.right.inside.height c.share_out.new.right.items
    c.share_out-2.new.right.items
    ≡ branch_of (suc (c.left.inside.height - 1)) []
    (drop cut (c.left.inside.kids.items ++ c.right.inside.kids.items)) =
    ap (λ k. branch_of k c.share_out.new.right.items c.share_out-2.new.right.items) right_level
    ∙ branch_is c.left.inside.height c.share_out.new.right.items c.share_out-2.new.right.items
    (λ low. omega (arith, c.requires.left_inner))
    ∙ ap (branch_of (suc (c.left.inside.height - 1)) []) c.share_out-2.ensures.right in
    let after = evened c.left.inside.height (c.left.inside.kids.items ++ c.right.inside.kids.items)
    cut (branch_of c.left.inside.height c.share_out.new.left.items c.share_out-2.new.left.items)
    (branch_of c.right.inside.height c.share_out.new.right.items c.share_out-2.new.right.items)
    (λ low. omega (arith, c.requires.left_inner)) pair.each parts.left (omega (arith, parts.within))
    (omega (arith, parts.right)) left_node right_node in
    omega (arith, after.node_count, pair.nodes)

pub returns-clause-pool_kids : goal.returns-clause-pool_kids
returns-clause-pool_kids c =
    let level : c.left.inside.height ≡ c.args.left.now.height = height_of c.left.inside.height
    c.left.inside.keys.items c.left.inside.kids.items c.args.left.now c.left.view_is in
    let right_level : c.right.inside.height ≡ c.left.inside.height =
    height_of c.right.inside.height c.right.inside.keys.items c.right.inside.kids.items c.args.right
    c.right.view_is ∙ c.requires.right_inner ∙ sym level in
    let pair = pair_of c.left.inside.height c.left.inside.keys.items c.left.inside.kids.items
    (vec_capacity c.left.inside.keys) (vec_capacity c.left.inside.kids) c.args.left.now
    c.right.inside.height c.right.inside.keys.items c.right.inside.kids.items
    (vec_capacity c.right.inside.keys) (vec_capacity c.right.inside.kids) c.args.right
    c.left.invariant c.left.view_is c.right.invariant c.right.view_is
    (λ low. omega (arith, c.requires.left_inner)) right_level in
    let count = length-append c.left.inside.kids.items c.right.inside.kids.items in
    let left_fill = pair.left_fill in
    let right_fill = pair.right_fill in
    let long : 225 < length c.left.inside.kids.items + length c.right.inside.kids.items =
    omega (arith, c.left.inside.kids.ok.0, c.right.inside.kids.ok.0) in
    let parts = shares_of 112 225 (length c.left.inside.kids.items)
    (length c.right.inside.kids.items) (omega (arith, c.requires.left_fill)) pair.left_most
    (omega (arith, c.requires.right_fill)) pair.right_most long (omega arith) in
    let cut = moved (length c.left.inside.kids.items) (length c.right.inside.kids.items) in
    let same_cut : moved (length c.left.inside.keys.items) (length c.right.inside.keys.items)
    ≡ cut = λ i. moved (pair.left_same i) (pair.right_same i) in
    let left_count = ap length c.share_out-2.ensures.left
    ∙ length-take-le cut (c.left.inside.kids.items ++ c.right.inside.kids.items)
    (omega (arith, parts.within)) in
    let right_count = ap length c.share_out-2.ensures.right
    ∙ length-drop cut (c.left.inside.kids.items ++ c.right.inside.kids.items) in
    let left_node : branch_of c.left.inside.height c.share_out.new.left.items
    c.share_out-2.new.left.items
    ≡ branch_of (suc (c.left.inside.height - 1)) []
    (take cut (c.left.inside.kids.items ++ c.right.inside.kids.items)) =
    branch_is c.left.inside.height c.share_out.new.left.items c.share_out-2.new.left.items
    (λ low. omega (arith, c.requires.left_inner))
    ∙ ap (branch_of (suc (c.left.inside.height - 1)) []) c.share_out-2.ensures.left in
    let right_node : branch_of c.right.inside.height c.share_out.new.right.items
    c.share_out-2.new.right.items
    ≡ branch_of (suc (c.left.inside.height - 1)) []
    (drop cut (c.left.inside.kids.items ++ c.right.inside.kids.items)) =
    ap (λ k. branch_of k c.share_out.new.right.items c.share_out-2.new.right.items) right_level
    ∙ branch_is c.left.inside.height c.share_out.new.right.items c.share_out-2.new.right.items
    (λ low. omega (arith, c.requires.left_inner))
    ∙ ap (branch_of (suc (c.left.inside.height - 1)) []) c.share_out-2.ensures.right in
    let after = evened c.left.inside.height (c.left.inside.kids.items ++ c.right.inside.kids.items)
    cut (branch_of c.left.inside.height c.share_out.new.left.items c.share_out-2.new.left.items)
    (branch_of c.right.inside.height c.share_out.new.right.items c.share_out-2.new.right.items)
    (λ low. omega (arith, c.requires.left_inner)) pair.each parts.left (omega (arith, parts.within))
    (omega (arith, parts.right)) left_node right_node in
    omega (arith, after.inner_count, pair.inners)
