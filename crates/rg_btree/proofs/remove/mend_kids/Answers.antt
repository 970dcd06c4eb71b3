use Rattle.std.proofs.Common.{◌≡◌, ◌-◌, suc, ◌∷◌, get_or, ◌∙◌, ap}
use Rattle.std.proofs.Common.{subst, arith, add-one}
use Rattle.std.specs.List.{remove, AllByRecursion}
use Rattle.std.specs.Option.{option_to_list}
use Rattle.rg_base.proofs.Each.{Each-at}
use Rattle.rg_bulk.specs.Shape.{IsKid}
use Rattle.rg_btree.specs.Short.{IsShort}
use Rattle.rg_btree.proofs.Mended.{front_keys, back_keys, get_removed, mended}
use Rattle.rg_btree.proofs.remove.mend_kids.Goals as goal
use Rattle.rg_btree.proofs.Kids.{at_most_one}

pub renew_kid-requires-clause-front : goal.renew_kid-requires-clause-front
renew_kid-requires-clause-front c =
    let k = c.remove.ensures.items ∙ ap (remove c.args.keys.now.items) (add-one c.args.at) in
    let ks = c.remove-right.ensures.items ∙ ap (remove c.args.kids.now.items) (add-one c.args.at) in
    front_keys c.args.keys.now.items c.args.kids.now.items c.args.at c.even_out-back.new.left
    c.remove.new.self.items c.remove-right.new.self.items c.requires.keys_are k ks

pub renew_kid-requires-clause-back : goal.renew_kid-requires-clause-back
renew_kid-requires-clause-back c =
    let k = c.remove.ensures.items ∙ ap (remove c.args.keys.now.items) (add-one c.args.at) in
    let ks = c.remove-right.ensures.items ∙ ap (remove c.args.kids.now.items) (add-one c.args.at) in
    back_keys c.args.keys.now.items c.args.kids.now.items c.args.at c.even_out-back.new.left
    c.remove.new.self.items c.remove-right.new.self.items c.requires.keys_are k ks

pub returns-clause-entries : goal.returns-clause-entries
returns-clause-entries c =
    let k = c.remove.ensures.items ∙ ap (remove c.args.keys.now.items) (add-one c.args.at) in
    let ks = c.remove-right.ensures.items ∙ ap (remove c.args.kids.now.items) (add-one c.args.at) in
    let left : c.index_mut.result.now
    ≡ get_or c.args.kids.now.items c.args.at c.index_mut.result.now =
    c.index_mut.ensures.value ∙ ap (λ xs. get_or xs c.args.at c.index_mut.result.now) ks
    ∙ get_removed c.args.kids.now.items c.args.at c.index_mut.result.now in
    let right : c.remove-right.result
    ≡ get_or c.args.kids.now.items (suc c.args.at) c.remove-right.result =
    c.remove-right.ensures.value
    ∙ ap (λ n. get_or c.args.kids.now.items n c.remove-right.result) (add-one c.args.at) in
    let level = ap (λ b. b.height) left
    ∙ (Each-at (IsShort (c.args.height - 1)) c.args.kids.now.items c.args.at
    c.index_mut.result.now (omega (arith, c.requires.within)) c.requires.short).level in
    let after = mended (c.args.height - 1) c.args.kids.now.items c.args.at c.index_mut.result.now
    c.remove-right.result c.even_out-back.new.left (option_to_list c.even_out-back.result)
    c.remove-right.new.self.items c.renew_kid.new.kids.items c.requires.within left right ks
    c.renew_kid.ensures.kids c.requires.front c.requires.back
    (subst
    (λ h. AllByRecursion (IsKid h)
    (c.even_out-back.new.left ∷ option_to_list c.even_out-back.result)) level
    c.even_out-back.ensures.each) c.even_out-back.ensures.entries in
    let few = at_most_one c.even_out-back.result in
    after.entries

pub returns-clause-each : goal.returns-clause-each
returns-clause-each c =
    let k = c.remove.ensures.items ∙ ap (remove c.args.keys.now.items) (add-one c.args.at) in
    let ks = c.remove-right.ensures.items ∙ ap (remove c.args.kids.now.items) (add-one c.args.at) in
    let left : c.index_mut.result.now
    ≡ get_or c.args.kids.now.items c.args.at c.index_mut.result.now =
    c.index_mut.ensures.value ∙ ap (λ xs. get_or xs c.args.at c.index_mut.result.now) ks
    ∙ get_removed c.args.kids.now.items c.args.at c.index_mut.result.now in
    let right : c.remove-right.result
    ≡ get_or c.args.kids.now.items (suc c.args.at) c.remove-right.result =
    c.remove-right.ensures.value
    ∙ ap (λ n. get_or c.args.kids.now.items n c.remove-right.result) (add-one c.args.at) in
    let level = ap (λ b. b.height) left
    ∙ (Each-at (IsShort (c.args.height - 1)) c.args.kids.now.items c.args.at
    c.index_mut.result.now (omega (arith, c.requires.within)) c.requires.short).level in
    let after = mended (c.args.height - 1) c.args.kids.now.items c.args.at c.index_mut.result.now
    c.remove-right.result c.even_out-back.new.left (option_to_list c.even_out-back.result)
    c.remove-right.new.self.items c.renew_kid.new.kids.items c.requires.within left right ks
    c.renew_kid.ensures.kids c.requires.front c.requires.back
    (subst
    (λ h. AllByRecursion (IsKid h)
    (c.even_out-back.new.left ∷ option_to_list c.even_out-back.result)) level
    c.even_out-back.ensures.each) c.even_out-back.ensures.entries in
    let few = at_most_one c.even_out-back.result in
    after.each

pub returns-clause-fewer : goal.returns-clause-fewer
returns-clause-fewer c =
    let k = c.remove.ensures.items ∙ ap (remove c.args.keys.now.items) (add-one c.args.at) in
    let ks = c.remove-right.ensures.items ∙ ap (remove c.args.kids.now.items) (add-one c.args.at) in
    let left : c.index_mut.result.now
    ≡ get_or c.args.kids.now.items c.args.at c.index_mut.result.now =
    c.index_mut.ensures.value ∙ ap (λ xs. get_or xs c.args.at c.index_mut.result.now) ks
    ∙ get_removed c.args.kids.now.items c.args.at c.index_mut.result.now in
    let right : c.remove-right.result
    ≡ get_or c.args.kids.now.items (suc c.args.at) c.remove-right.result =
    c.remove-right.ensures.value
    ∙ ap (λ n. get_or c.args.kids.now.items n c.remove-right.result) (add-one c.args.at) in
    let level = ap (λ b. b.height) left
    ∙ (Each-at (IsShort (c.args.height - 1)) c.args.kids.now.items c.args.at
    c.index_mut.result.now (omega (arith, c.requires.within)) c.requires.short).level in
    let after = mended (c.args.height - 1) c.args.kids.now.items c.args.at c.index_mut.result.now
    c.remove-right.result c.even_out-back.new.left (option_to_list c.even_out-back.result)
    c.remove-right.new.self.items c.renew_kid.new.kids.items c.requires.within left right ks
    c.renew_kid.ensures.kids c.requires.front c.requires.back
    (subst
    (λ h. AllByRecursion (IsKid h)
    (c.even_out-back.new.left ∷ option_to_list c.even_out-back.result)) level
    c.even_out-back.ensures.each) c.even_out-back.ensures.entries in
    let few = at_most_one c.even_out-back.result in
    omega (arith, after.count)

pub returns-clause-most : goal.returns-clause-most
returns-clause-most c =
    let k = c.remove.ensures.items ∙ ap (remove c.args.keys.now.items) (add-one c.args.at) in
    let ks = c.remove-right.ensures.items ∙ ap (remove c.args.kids.now.items) (add-one c.args.at) in
    let left : c.index_mut.result.now
    ≡ get_or c.args.kids.now.items c.args.at c.index_mut.result.now =
    c.index_mut.ensures.value ∙ ap (λ xs. get_or xs c.args.at c.index_mut.result.now) ks
    ∙ get_removed c.args.kids.now.items c.args.at c.index_mut.result.now in
    let right : c.remove-right.result
    ≡ get_or c.args.kids.now.items (suc c.args.at) c.remove-right.result =
    c.remove-right.ensures.value
    ∙ ap (λ n. get_or c.args.kids.now.items n c.remove-right.result) (add-one c.args.at) in
    let level = ap (λ b. b.height) left
    ∙ (Each-at (IsShort (c.args.height - 1)) c.args.kids.now.items c.args.at
    c.index_mut.result.now (omega (arith, c.requires.within)) c.requires.short).level in
    let after = mended (c.args.height - 1) c.args.kids.now.items c.args.at c.index_mut.result.now
    c.remove-right.result c.even_out-back.new.left (option_to_list c.even_out-back.result)
    c.remove-right.new.self.items c.renew_kid.new.kids.items c.requires.within left right ks
    c.renew_kid.ensures.kids c.requires.front c.requires.back
    (subst
    (λ h. AllByRecursion (IsKid h)
    (c.even_out-back.new.left ∷ option_to_list c.even_out-back.result)) level
    c.even_out-back.ensures.each) c.even_out-back.ensures.entries in
    let few = at_most_one c.even_out-back.result in
    omega (arith, after.count, c.requires.most)

pub returns-clause-pool_keys : goal.returns-clause-pool_keys
returns-clause-pool_keys c =
    let k = c.remove.ensures.items ∙ ap (remove c.args.keys.now.items) (add-one c.args.at) in
    let ks = c.remove-right.ensures.items ∙ ap (remove c.args.kids.now.items) (add-one c.args.at) in
    let left : c.index_mut.result.now
    ≡ get_or c.args.kids.now.items c.args.at c.index_mut.result.now =
    c.index_mut.ensures.value ∙ ap (λ xs. get_or xs c.args.at c.index_mut.result.now) ks
    ∙ get_removed c.args.kids.now.items c.args.at c.index_mut.result.now in
    let right : c.remove-right.result
    ≡ get_or c.args.kids.now.items (suc c.args.at) c.remove-right.result =
    c.remove-right.ensures.value
    ∙ ap (λ n. get_or c.args.kids.now.items n c.remove-right.result) (add-one c.args.at) in
    let level = ap (λ b. b.height) left
    ∙ (Each-at (IsShort (c.args.height - 1)) c.args.kids.now.items c.args.at
    c.index_mut.result.now (omega (arith, c.requires.within)) c.requires.short).level in
    let after = mended (c.args.height - 1) c.args.kids.now.items c.args.at c.index_mut.result.now
    c.remove-right.result c.even_out-back.new.left (option_to_list c.even_out-back.result)
    c.remove-right.new.self.items c.renew_kid.new.kids.items c.requires.within left right ks
    c.renew_kid.ensures.kids c.requires.front c.requires.back
    (subst
    (λ h. AllByRecursion (IsKid h)
    (c.even_out-back.new.left ∷ option_to_list c.even_out-back.result)) level
    c.even_out-back.ensures.each) c.even_out-back.ensures.entries in
    let few = at_most_one c.even_out-back.result in
    omega (arith, after.nodes, c.even_out-back.ensures.pool_keys)

pub returns-clause-pool_kids : goal.returns-clause-pool_kids
returns-clause-pool_kids c =
    let k = c.remove.ensures.items ∙ ap (remove c.args.keys.now.items) (add-one c.args.at) in
    let ks = c.remove-right.ensures.items ∙ ap (remove c.args.kids.now.items) (add-one c.args.at) in
    let left : c.index_mut.result.now
    ≡ get_or c.args.kids.now.items c.args.at c.index_mut.result.now =
    c.index_mut.ensures.value ∙ ap (λ xs. get_or xs c.args.at c.index_mut.result.now) ks
    ∙ get_removed c.args.kids.now.items c.args.at c.index_mut.result.now in
    let right : c.remove-right.result
    ≡ get_or c.args.kids.now.items (suc c.args.at) c.remove-right.result =
    c.remove-right.ensures.value
    ∙ ap (λ n. get_or c.args.kids.now.items n c.remove-right.result) (add-one c.args.at) in
    let level = ap (λ b. b.height) left
    ∙ (Each-at (IsShort (c.args.height - 1)) c.args.kids.now.items c.args.at
    c.index_mut.result.now (omega (arith, c.requires.within)) c.requires.short).level in
    let after = mended (c.args.height - 1) c.args.kids.now.items c.args.at c.index_mut.result.now
    c.remove-right.result c.even_out-back.new.left (option_to_list c.even_out-back.result)
    c.remove-right.new.self.items c.renew_kid.new.kids.items c.requires.within left right ks
    c.renew_kid.ensures.kids c.requires.front c.requires.back
    (subst
    (λ h. AllByRecursion (IsKid h)
    (c.even_out-back.new.left ∷ option_to_list c.even_out-back.result)) level
    c.even_out-back.ensures.each) c.even_out-back.ensures.entries in
    let few = at_most_one c.even_out-back.result in
    omega (arith, after.inners, c.even_out-back.ensures.pool_kids)
