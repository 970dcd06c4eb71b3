use Rattle.std.specs.List.{AllByRecursion}
use Rattle.rg_feed.specs.Fold.Lawful.{AreApart}
use Rattle.rg_reload.proofs.Apart.{IsBelow}
use Rattle.rg_tests_utility.proofs.shadow.falling_rows.Given as goal

abbrev pub invariant-loop-slot : goal.invariant-loop-slot
invariant-loop-slot l = record {
  below : AllByRecursion (IsBelow l.slot) l.rows.items;
  apart : AreApart l.rows.items;
}
