-- How a new copy comes to be caught up, and stays so.
--
-- 1. Once the rows of all copies are loaded, in whatever order they were packed, it is caught up
--    with the feed before its first change.
-- 2. More changes and booked entries leave it so: they count only once they are taken.
use Rattle.std.specs.Prelude.{◌≡◌, ◌≤◌, List, ◌++◌}
use Rattle.std.specs.List.{AllByRecursion}
use Rattle.std.specs.List.Sorted.{IsPermutation}
use Rattle.rg_base.specs.declared.place.Place.{Place}
use Rattle.rg_base.specs.declared.row.Row.{Row}
use Rattle.rg_feed.specs.Ends.{Grew, Received}
use Rattle.rg_feed.specs.Fold.Fold.{copied_rows, row_in, since_begin}
use Rattle.rg_feed.specs.Fold.Lawful.{Lawful}
use Rattle.rg_feed.specs.declared.fold.item.Item.{Item}
use Rattle.rg_feed.specs.declared.fold.item.Item.TheVariants.{Begin, PageCopy}
use Rattle.rg_shadow.specs.Shade.{Shade, source_rows}
use Rattle.rg_translate.specs.Backlog.{change_count}
use Rattle.rg_translate.specs.Caught.{Caught}

-- the rows of all copies are loaded, and no change was taken
abbrev pub LoadIsCaught : Type 0
LoadIsCaught = (shadow : Shade) (inlet : Received) (rows : List (Place × Row))
    → Lawful (since_begin inlet.items) → inlet.taken ≡ 0
    → IsPermutation (copied_rows (since_begin inlet.items)) rows
    → ((source : Place) → source_rows shadow source ≡ row_in rows source)
    → Caught shadow inlet

-- neither a Begin nor a copy
abbrev pub IsLater : Item → Type 0
IsLater (Begin options pages) = ⊥
IsLater (PageCopy page position rows) = ⊥
IsLater item = Unit {0}

-- only such items were added
pub record AddsLater (old new : List Item) : Type 0 where
  pub more : List Item
  pub items : new ≡ old ++ more
  pub later : AllByRecursion IsLater more

-- more was received, without a Begin or a copy
abbrev pub MoreIsCaught : Type 0
MoreIsCaught = (shadow : Shade) (old new : Received) → Grew old new
    → AddsLater old.items new.items → old.taken ≤ change_count old
    → Caught shadow old → Caught shadow new
