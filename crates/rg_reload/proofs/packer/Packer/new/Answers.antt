use Rattle.std.proofs.Common.{subst, sym, rules, refl, arith}
use Rattle.std.proofs.lemmas.Grind.{common_steps}
use Rattle.rg_feed.proofs.FoldLemmas.Permuted.{same_rows}
use Rattle.rg_feed.specs.Fold.Lawful.{AreApart}
use Rattle.rg_reload.proofs.packer.Packer.new.Goals as goal

pub invariant_of-result : goal.invariant_of-result
invariant_of-result c =
    let apart : AreApart c.into_vec-rows.result.items =
    subst AreApart (sym c.into_vec-rows.ensures) c.requires in
    record {
      few = omega arith;
      left = refl;
      pairs_are = search rules;
      room = grind (arith, common_steps);
      within = grind (arith, common_steps);
      apart =
          (same_rows c.into_vec-rows.result.items c.sort_rows.new.rows.items
          c.sort_rows.ensures.permutation apart).0;
      filled_are = refl;
      made_is = grind (arith, common_steps);
    }
