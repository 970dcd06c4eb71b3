use Rattle.std.proofs.Common.{◌≡◌}
use Rattle.std.specs.List.{AllByRecursion}
use Rattle.rg_feed.specs.Fold.Lawful.{AreApart}
use Rattle.rg_reload.proofs.Apart.{IsBelow}
use Rattle.rg_tests_utility.proofs.reload.rows_of.Given as goal

abbrev pub invariant-loop-clus : goal.invariant-loop-clus
invariant-loop-clus l = record {
  slot : l.slot ≡ l.clus-index;
  below : AllByRecursion (IsBelow l.slot) l.rows.items;
  apart : AreApart l.rows.items;
}
