use Rattle.std.proofs.Common.{◌<◌, ◌++◌, not, length, refl, ◌∙◌, ap, subst, arith}
use Rattle.std.proofs.lemmas.List.{append-nil, take-append-drop, length-take-le, length-drop}
use Rattle.std.proofs.lemmas.List.Edits.{length-insert}
use Rattle.rg_model.specs.Layout.{is_entry_before}
use Rattle.rg_index.specs.Split.{IsCutBy}
use Rattle.rg_index.proofs.Found.{insert_is_put}
use Rattle.rg_btree.proofs.add.add_to_leaf.Goals as goal

pub returns-then-len-le-LEAF_MOST-clause-entries : goal.returns-then-len-le-LEAF_MOST-clause-entries
returns-then-len-le-LEAF_MOST-clause-entries c =
    append-nil c.insert_within.new.to.items
    ∙ c.insert_within.ensures.items
    ∙ insert_is_put c.args.entry c.args.keys.now.items c.count_through-at.result
    (subst (λ es. IsCutBy (λ x. not (is_entry_before c.args.entry x)) es c.count_through-at.result)
    c.as_slice.ensures.value c.count_through-at.ensures)

pub returns-clause-entries : goal.returns-clause-entries
returns-clause-entries c =
    ap (λ es. c.move_behind-second.new.from.items ++ es)
    (append-nil c.move_behind-second.result.items)
    ∙ (λ i. c.move_behind-second.ensures.left i ++ c.move_behind-second.ensures.moved i)
    ∙ take-append-drop 128 c.insert_within.new.to.items
    ∙ c.insert_within.ensures.items
    ∙ insert_is_put c.args.entry c.args.keys.now.items c.count_through-at.result
    (subst (λ es. IsCutBy (λ x. not (is_entry_before c.args.entry x)) es c.count_through-at.result)
    c.as_slice.ensures.value c.count_through-at.ensures)

pub invariant_of-result : goal.invariant_of-result
invariant_of-result c =
    let long : 256 < length c.insert_within.new.to.items =
    omega (arith, c.insert_within.new.to.ok.0) in
    let count =
    ap length c.move_behind-second.ensures.moved ∙ length-drop 128 c.insert_within.new.to.items in
    let short = ap length c.insert_within.ensures.items
    ∙ length-insert c.args.keys.now.items c.count_through-at.result c.args.entry
    (omega (arith, c.count_through-at.ensures.0, ap length c.as_slice.ensures.value)) in
    record {
      none = c.new.ensures.items;
      most = omega (arith, c.requires.most);
      room = omega (arith, c.take_keys.ensures.room, c.move_behind-second.ensures.result_room);
    }

pub returns-clause-most : goal.returns-clause-most
returns-clause-most c =
    let long : 256 < length c.insert_within.new.to.items =
    omega (arith, c.insert_within.new.to.ok.0) in
    let count = ap length c.move_behind-second.ensures.left
    ∙ length-take-le 128 c.insert_within.new.to.items (omega arith) in
    omega arith

pub returns-clause-two : goal.returns-clause-two
returns-clause-two c =
    let long : 256 < length c.insert_within.new.to.items =
    omega (arith, c.insert_within.new.to.ok.0) in
    let count = ap length c.move_behind-second.ensures.left
    ∙ length-take-le 128 c.insert_within.new.to.items (omega arith) in
    let other =
    ap length c.move_behind-second.ensures.moved ∙ length-drop 128 c.insert_within.new.to.items in
    (refl, omega arith, omega arith)
