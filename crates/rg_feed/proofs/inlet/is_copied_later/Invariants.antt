use Rattle.std.proofs.Common.{◌≡◌, drop}
use Rattle.rg_feed.specs.Fold.Lawful.{passes_over}
use Rattle.rg_feed.proofs.inlet.is_copied_later.Given as goal

-- the copies from here on decide
abbrev pub invariant-loop-item : goal.invariant-loop-item
invariant-loop-item l =
    passes_over (drop l.item-index l.copies) l.change ≡ passes_over l.copies l.change
