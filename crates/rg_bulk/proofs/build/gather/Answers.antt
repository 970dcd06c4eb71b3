use Rattle.std.proofs.Common.{add-one, sym, subst, vec_capacity, arith}
use Rattle.std.specs.List.{AllByRecursion}
use Rattle.rg_base.proofs.Each.{Each-left, Each-right}
use Rattle.rg_bulk.specs.Shape.{IsKid, IsNode}
use Rattle.rg_bulk.proofs.Filled.{kid_has_entry}
use Rattle.rg_bulk.proofs.build.gather.Goals as goal

pub first-requires : goal.first-requires
first-requires c =
    let here = Each-right (IsKid c.args.height) c.loop-kid.kids.items c.loop-kid.level.items
    (subst (AllByRecursion (IsKid c.args.height)) c.loop-kid.invariant.all c.requires.full) in
    kid_has_entry c.args.height c.in-Some.node
    (subst (AllByRecursion (IsKid c.args.height)) c.in-Some.ensures.items here).0

pub invariant_of-result : goal.invariant_of-result
invariant_of-result c =
    let count = c.loop-kid.invariant.count in
    let end = c.loop-kid-test.false in
    let upto = c.loop-kid.auto._kid-end in
    subst
    (λ h. IsNode h c.loop-kid.keys.items c.loop-kid.kids.items (vec_capacity c.loop-kid.keys)
    (vec_capacity c.loop-kid.kids)) (sym (add-one c.args.height)) (record {
      keys_are = c.loop-kid.invariant.keys_are;
      fewest = omega arith;
      most = omega arith;
      each = Each-left (IsKid c.args.height) c.loop-kid.kids.items c.loop-kid.level.items
          (subst (AllByRecursion (IsKid c.args.height)) c.loop-kid.invariant.all c.requires.full);
      key_space = c.loop-kid.invariant.key_space;
      kid_space = c.loop-kid.invariant.kid_space;
    })
