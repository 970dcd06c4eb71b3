use Rattle.rg_page.specs.Bare.{numbers_of}
use Rattle.std.proofs.Common.{◌≡◌, map, take}
use Rattle.std.specs.List.{list_any}
use Rattle.rg_home.specs.Slots.{used, is_free}
use Rattle.rg_home.specs.Plan.{swept, purged}
use Rattle.rg_page.proofs.summary.once_purged.Given as goal

abbrev pub invariant-loop-i : goal.invariant-loop-i
invariant-loop-i l = record {
  all : l.all ≡ used (map (swept (numbers_of l.live)) (take l.i l.headers));
  kept : l.kept ≡ used (purged (numbers_of l.live) (take l.i l.headers));
  seen : l.seen ≡ list_any is_free (map (swept (numbers_of l.live)) (take l.i l.headers));
  gap : l.gap ≡ list_any is_free (purged (numbers_of l.live) (take l.i l.headers));
}
