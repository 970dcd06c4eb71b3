-- Fold of a feed: which row each place has after items of the feed, from a table without rows on.
-- (1) Only the items after the last Begin count.
-- (2) A copy of a page takes all rows of the page away, and brings its own.
-- (3) A change gives its home the row `after`, or none.
-- (4) A booked item changes no row.
-- (5) All is said of one place at a time, so two tables agree where they agree at each place.
use Rattle.std.specs.Prelude.{ℕ, ◌==◌, zero, suc, List, [], ◌∷◌, ◌++◌, Option, Some, None}
use Rattle.std.specs.Prelude.{if◌then◌else◌}
use Rattle.rg_base.specs.declared.change.Change.{Change}
use Rattle.rg_base.specs.declared.place.Place.{Place}
use Rattle.rg_base.specs.declared.row.Row.{Row}
use Rattle.rg_base.specs.Place.{same_place}
use Rattle.rg_feed.specs.Fold.Last.{changed_at}
use Rattle.rg_feed.specs.declared.fold.item.Item.{Item}
use Rattle.rg_feed.specs.declared.fold.item.Item.TheVariants.{Begin, PageCopy, Booked}
use Rattle.rg_feed.specs.declared.fold.item.Item.TheVariants as items
use Rattle.rg_feed.specs.declared.fold.item.Stage.{Stage}

-- the row at a place, of rows with their places
abbrev pub row_in : List (Place × Row) → Place → Option Row
row_in [] place = None
row_in (entry ∷ rows) place = if same_place entry.0 place then Some entry.1 else row_in rows place

-- what an item leaves at a place that had this row
abbrev pub step_at : Place → Item → Option Row → Option Row
step_at place (Begin options pages) row = None
step_at place (PageCopy page position rows) row =
    if page == place.page then row_in rows place else row
step_at place (items.Change change) row = changed_at place change row
step_at place (Booked stage) row = row

-- what items leave there, one after another
abbrev pub fold_from : Place → Option Row → List Item → Option Row
fold_from place row [] = row
fold_from place row (item ∷ feed) = fold_from place (step_at place item row) feed

-- the row that items give a place
abbrev pub fold_at : List Item → Place → Option Row
fold_at feed place = fold_from place None feed

-- the items after the last Begin of the second list, or else all of both
abbrev pub since : List Item → List Item → List Item
since before [] = before
since before (Begin options pages ∷ feed) = since [] feed
since before (item ∷ feed) = since (before ++ item ∷ []) feed

-- the items after the last Begin
abbrev pub since_begin : List Item → List Item
since_begin feed = since [] feed

-- the changes among items
abbrev pub changes : List Item → List Change
changes [] = []
changes (items.Change change ∷ feed) = change ∷ changes feed
changes (item ∷ feed) = changes feed

-- the copies of pages among them
abbrev pub page_copies : List Item → List Item
page_copies [] = []
page_copies (PageCopy page position rows ∷ feed) =
    PageCopy page position rows ∷ page_copies feed
page_copies (item ∷ feed) = page_copies feed

-- the rows of all copies
abbrev pub copied_rows : List Item → List (Place × Row)
copied_rows [] = []
copied_rows (PageCopy page position rows ∷ feed) = rows ++ copied_rows feed
copied_rows (item ∷ feed) = copied_rows feed

-- without the changes past the k-th
abbrev pub up_to : List Item → ℕ → List Item
up_to [] k = []
up_to (Begin options pages ∷ feed) k = Begin options pages ∷ up_to feed k
up_to (PageCopy page position rows ∷ feed) k = PageCopy page position rows ∷ up_to feed k
up_to (items.Change change ∷ feed) zero = up_to feed zero
up_to (items.Change change ∷ feed) (suc k) = items.Change change ∷ up_to feed k
up_to (Booked stage ∷ feed) k = Booked stage ∷ up_to feed k

-- the row that the items after the last Begin give a place, without the changes past the k-th
abbrev pub fold_to : List Item → ℕ → Place → Option Row
fold_to feed k place = fold_at (up_to (since_begin feed) k) place

-- the stage of the last booked item, or this one where there is none
abbrev pub stage_from : Option Stage → List Item → Option Stage
stage_from stage [] = stage
stage_from stage (Booked later ∷ feed) = stage_from (Some later) feed
stage_from stage (item ∷ feed) = stage_from stage feed

-- the stage of the last booked item
abbrev pub stage_of : List Item → Option Stage
stage_of feed = stage_from None feed
