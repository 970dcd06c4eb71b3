use Rattle.std.proofs.Common.{◌≡◌, take}
use Rattle.rg_feed.specs.Fold.Fold.{copied_rows}
use Rattle.rg_translate.proofs.load.copied.rows_of.Given as goal

abbrev pub invariant-loop-item : goal.invariant-loop-item
invariant-loop-item l = l.all.items ≡ copied_rows (take l.item-index l.copies)
